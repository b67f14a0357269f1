use Rattle.std.proofs.Common.{length, sym, subst}
use Rattle.av1_block.specs.Cut.{LiesInTable}
use Rattle.av1_block.specs.Rows.{Rows}
use Rattle.av1_block.specs.declared.me_stats.MEStats.{MEStats}
use Rattle.av1_block.proofs.Places.{placed_lies}
use Rattle.av1_tiling.specs.Frames.{HoldsRect}
use Rattle.av1_tiling.proofs.part.cut_motion.Goals as goal

pub take-requires : goal.take-requires
take-requires c =
    let rect = c.args.rect in
    let t = c.table-item.result in
    let held = subst (HoldsRect rect) (sym c.table-item.is) (c.requires c.loop-table.table-index t c.loop-table-test.true) in
    let lies = placed_lies rect.x rect.y t.cols t.rows rect.width rect.height _ held.across held.down c.entries.ensures.whole in
    record { inside = subst (λ (r : Rows MEStats). LiesInTable (length c.entries.result.now) r.cols rect) (sym c.table.view_is) lies }
