use Rattle.std.proofs.Common.{◌≡◌, ◌+◌, ◌*◌, map, pos, true, false, get_or, arith, ap, sym, ◌∙◌, ℕ}
use Rattle.av1_plane.specs.declared.tile_rect.TileRect.{TileRect}
use Rattle.std.specs.List.{list_all, range_with_len}
use Rattle.av1_tiling.specs.Views.{plane_at}
use Rattle.av1_frame.specs.Coding.{in_depth, inner_columns, inner_rows, is_row_in_depth}
use Rattle.av1_frame.proofs.Depths.{one_passes, one_fails}
use Rattle.av1_frame.proofs.checks.is_part_in_depth.Goals as goal

pub loop-y-preserved : goal.loop-y-preserved
loop-y-preserved g c =
    let part = plane_at c.args.tile.now.rec c.args.pli in
    let samples = c.samples-samples.ensures in
    let rect = c.samples_rect-rect.ensures.place in
    let row : c.are_below.result ≡ is_row_in_depth c.args.bound c.min-columns.result part c.loop-y.y =
    c.are_below.ensures ∙ (λ i. list_all (λ x. in_depth c.args.bound (get_or (samples i) (c.loop-y.y * (rect i).width + x) (pos 0))) (range_with_len 0 c.min-columns.result)) in
    one_passes (is_row_in_depth c.args.bound c.min-columns.result part) c.loop-y.y c.loop-y.invariant (sym row ∙ c.if-not-are_below.false)

pub returns-then-not-are_below : goal.returns-then-not-are_below
returns-then-not-are_below g c =
    let cfg = c.args.cfg.now in
    let part = plane_at c.args.tile.now.rec c.args.pli in
    let samples = c.samples-samples.ensures in
    let rect = c.samples_rect-rect.ensures.place in
    let row : c.are_below.result ≡ is_row_in_depth c.args.bound c.min-columns.result part c.loop-y.y =
    c.are_below.ensures ∙ (λ i. list_all (λ x. in_depth c.args.bound (get_or (samples i) (c.loop-y.y * (rect i).width + x) (pos 0))) (range_with_len 0 c.min-columns.result)) in
    let x = ap (λ (r : TileRect). r.x) rect in
    let y = ap (λ (r : TileRect). r.y) rect in
    let width = ap (λ (r : TileRect). r.width) rect in
    let height = ap (λ (r : TileRect). r.height) rect in
    let left = c.saturating_sub.ensures in
    let below = c.saturating_sub-2.ensures in
    let columns : c.min-columns.result ≡ inner_columns cfg part = let least = c.min-columns.ensures in omega arith in
    let rows : c.min-rows.result ≡ inner_rows cfg part = let least = c.min-rows.ensures in omega arith in
    let failed : is_row_in_depth c.args.bound c.min-columns.result part c.loop-y.y ≡ false = sym row ∙ c.if-not-are_below.true in
    sym (one_fails (is_row_in_depth c.args.bound (inner_columns cfg part) part) (inner_rows cfg part) c.loop-y.y (let inside = c.loop-y-test.true in omega arith)
    (ap (λ (n : ℕ). is_row_in_depth c.args.bound n part c.loop-y.y) (sym columns) ∙ failed))
