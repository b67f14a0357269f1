use Rattle.std.proofs.Common.{◌≡◌, ap, arith}
use Rattle.av1_block.specs.declared.block.Block.{Block}
use Rattle.av1_block.specs.declared.window.Window.{Window}
use Rattle.av1_block.specs.Rows.{Rows}
use Rattle.av1_block.proofs.Places.{placed_lies}
use Rattle.av1_block.proofs.tile_blocks_mut.TileViewMut+Block.for_each.Goals as goal

pub call_in_rectangle-requires-clause-inside : goal.call_in_rectangle-requires-clause-inside
call_in_rectangle-requires-clause-inside g c =
    let part = c.part-part.result in
    let table = c.args.self.now.table.now in
    let placed = c.requires.placed in
    let same : c.table.inside.cols ≡ table.cols = ap (λ (t : Rows Block). t.cols) c.table.view_is in
    placed_lies part.left part.top c.table.inside.cols table.rows part.cols part.rows _
    (omega (arith, same, ap (λ (w : Window). w.left) c.part-part.ensures, ap (λ (w : Window). w.cols) c.part-part.ensures, placed.across, c.requires.column))
    (omega (arith, ap (λ (w : Window). w.top) c.part-part.ensures, ap (λ (w : Window). w.rows) c.part-part.ensures, placed.down, c.requires.row))
    (rw same c.entries_mut-entries.ensures.whole)
