use Rattle.std.proofs.Common.{◌≡◌, ap}
use Rattle.av1_block.specs.Rows.{Rows}
use Rattle.av1_block.proofs.Places.{rectangle_stored}
use Rattle.av1_block.proofs.tile_view.TileView.over.Goals as goal

pub invariant_of-result-clause-stored : goal.invariant_of-result-clause-stored
invariant_of-result-clause-stored g c =
    let table = c.args.table.now in
    let window = c.args.window in
    let same : c.table.inside.cols ≡ table.cols = ap (λ (t : Rows _). t.cols) c.table.view_is in
    rectangle_stored _ window.left window.top c.table.inside.cols table.rows window.cols window.rows _
    (rw same c.requires.across) c.requires.down (rw same c.entries-entries.ensures.whole) c.min-from.ensures
