use Rattle.std.proofs.Common.{arith}
use Rattle.av1_deblock.specs.Errors.{compared}
use Rattle.av1_deblock.proofs.Tallies.{added_as}
use Rattle.av1_deblock.proofs.Walks.{cells_are_edge}
use Rattle.av1_deblock.proofs.walk.add_edge_by.Goals as goal

pub returns : goal.returns
returns g c =
    let added = rw (← c.requires.size) at c.add_cells.ensures in
    added_as 4294967296 4294967296 _ _ _ _ (omega arith)
    (λ l h. cells_are_edge (compared c.args.bd g.T.Pixel.number c.args.rec.now c.args.src.now) c.args.edge _ _ l c.gather.ensures.value c.gather-2.ensures.value)
    added
