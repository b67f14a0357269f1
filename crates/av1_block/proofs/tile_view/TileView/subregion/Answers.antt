use Rattle.std.proofs.Common.{arith}
use Rattle.av1_block.proofs.Places.{part_stored}
use Rattle.av1_block.proofs.tile_view.TileView.subregion.Goals as goal

pub invariant_of-result-clause-stored : goal.invariant_of-result-clause-stored
invariant_of-result-clause-stored g c =
    let view = c.args.self.now in
    part_stored view.entries.now c.args.x c.args.y view.step view.cols view.rows _ _
    (omega (arith, c.min.ensures, c.requires.column)) (omega (arith, c.min-2.ensures, c.requires.row)) view.stored
