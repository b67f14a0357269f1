use Rattle.std.proofs.Common.{ap, arith}
use Rattle.av1_deblock.specs.Levels.{fixed}
use Rattle.av1_deblock.specs.Edges.{blocks_in}
use Rattle.av1_deblock.specs.Errors.{compared, edges_error}
use Rattle.av1_deblock.proofs.EdgeLists.{rows_of_table}
use Rattle.av1_deblock.proofs.Tallies.{added_as}
use Rattle.av1_deblock.proofs.walk.add_row.Goals as goal

pub returns : goal.returns
returns g c =
    added_as 70368744177664 70368744177664 _ _ _ _ (omega arith)
    (λ l h. ap (edges_error (compared c.args.bd g.T.Pixel.number c.args.rec.now c.args.src.now)) (rows_of_table c.args.g (fixed l) (blocks_in c.args.blocks.now) _ c.args.v c.block_rows-rows.ensures.same))
    c.add_between.ensures
