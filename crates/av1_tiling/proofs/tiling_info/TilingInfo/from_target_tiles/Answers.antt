use Rattle.std.proofs.Common.{◌≡◌, ℕ, inr, true, refl, sym, ap, ◌∙◌, arith}
use Rattle.av1_tiling.specs.Grid.{clamp, is_side, is_frame}
use Rattle.av1_tiling.proofs.GridMade.{is_frame-true, next_multiple_of-eight, clamp_either, grid-none, grid-some, ok_only}
use Rattle.av1_tiling.proofs.tiling_info.TilingInfo.from_target_tiles.Goals as goal

pub returns-then-rate_rows_log2-limits-clause-none :
    goal.returns-then-rate_rows_log2-limits-clause-none
returns-then-rate_rows_log2-limits-clause-none c =
    let a = c.args in
    let l = c.new-limits in
    let wide : is_side a.frame_width ≡ true = sym c.is_side.ensures ∙ c.if-not-is_side.false in
    let high : is_side a.frame_height ≡ true = sym c.is_side-else-not-is_side.ensures ∙ c.if-not-is_side-2.false in
    let frame : is_frame a.sb_size_log2 a.frame_width a.frame_height a.den ≡ true = is_frame-true a.sb_size_log2 a.frame_width a.frame_height a.den c.if-sb_size_log2-ne6.false wide high (omega arith) in
    let made = grid-none a.sb_size_log2 a.frame_width a.frame_height a.num a.den a.tile_cols_log2 a.tile_rows_log2 a.is_422_p
    c.next_multiple_of-frame_width.result c.next_multiple_of-frame_height.result c.superblocks-sb_cols.result c.superblocks-sb_rows.result
    l.result.min_tile_cols_log2 l.result.max_tile_cols_log2 l.result.min_tiles_log2 c.tile_width-tile_width_sb.result c.div_ceil-cols.result
    c.reached_log2-tile_cols_log2.result c.saturating_sub-rate_rows_log2.result l.result.max_tile_rows_log2
    frame (record {
      wide = c.next_multiple_of-frame_width.ensures.value ∙ next_multiple_of-eight a.frame_width;
      high = c.next_multiple_of-frame_height.ensures.value ∙ next_multiple_of-eight a.frame_height;
      sb_wide = c.superblocks-sb_cols.ensures.value;
      sb_high = c.superblocks-sb_rows.ensures.value;
      least_cols = l.ensures.min_cols;
      most_cols = l.ensures.max_cols;
      least_tiles = l.ensures.min_tiles;
      tile_wide = rw (← clamp_either a.tile_cols_log2 l.result.min_tile_cols_log2 l.result.max_tile_cols_log2 l.ensures.ordered, ← c.clamp-target_log2.ensures) c.tile_width-tile_width_sb.ensures.value;
      count = c.div_ceil-cols.ensures;
      count_log2 = c.reached_log2-tile_cols_log2.ensures.value;
      rate = rw (← c.rate_log2.ensures, ← c.max-rate_tiles_log2.ensures) c.saturating_sub-rate_rows_log2.ensures;
    }) l.ensures.max_rows c.if-rate_rows_log2-limits.true in
    (λ _. inr made, λ _. refl)

pub returns-clause-tiling : goal.returns-clause-tiling
returns-clause-tiling c =
    let a = c.args in
    let l = c.new-limits in
    let wide : is_side a.frame_width ≡ true = sym c.is_side.ensures ∙ c.if-not-is_side.false in
    let high : is_side a.frame_height ≡ true = sym c.is_side-else-not-is_side.ensures ∙ c.if-not-is_side-2.false in
    let frame : is_frame a.sb_size_log2 a.frame_width a.frame_height a.den ≡ true = is_frame-true a.sb_size_log2 a.frame_width a.frame_height a.den c.if-sb_size_log2-ne6.false wide high (omega arith) in
    let rate_rows = c.saturating_sub-rate_rows_log2.result in
    let max_rows = l.result.max_tile_rows_log2 in
    let rows_log2 = c.clamp-tile_rows_log2.ensures ∙ (clamp_either c.max.result rate_rows max_rows c.if-rate_rows_log2-limits.false ∙ ap (λ (x : ℕ). clamp x rate_rows max_rows) c.max.ensures) in
    grid-some a.sb_size_log2 a.frame_width a.frame_height a.num a.den a.tile_cols_log2 a.tile_rows_log2 a.is_422_p
    c.next_multiple_of-frame_width.result c.next_multiple_of-frame_height.result c.superblocks-sb_cols.result c.superblocks-sb_rows.result
    l.result.min_tile_cols_log2 l.result.max_tile_cols_log2 l.result.min_tiles_log2 c.tile_width-tile_width_sb.result c.div_ceil-cols.result
    c.reached_log2-tile_cols_log2.result c.saturating_sub-rate_rows_log2.result l.result.max_tile_rows_log2
    c.saturating_sub-min_tile_rows_log2.result c.clamp-tile_rows_log2.result c.align_power_of_two_and_shift-tile_height_sb.result c.div_ceil.result
    frame (record {
      wide = c.next_multiple_of-frame_width.ensures.value ∙ next_multiple_of-eight a.frame_width;
      high = c.next_multiple_of-frame_height.ensures.value ∙ next_multiple_of-eight a.frame_height;
      sb_wide = c.superblocks-sb_cols.ensures.value;
      sb_high = c.superblocks-sb_rows.ensures.value;
      least_cols = l.ensures.min_cols;
      most_cols = l.ensures.max_cols;
      least_tiles = l.ensures.min_tiles;
      tile_wide = rw (← clamp_either a.tile_cols_log2 l.result.min_tile_cols_log2 l.result.max_tile_cols_log2 l.ensures.ordered, ← c.clamp-target_log2.ensures) c.tile_width-tile_width_sb.ensures.value;
      count = c.div_ceil-cols.ensures;
      count_log2 = c.reached_log2-tile_cols_log2.ensures.value;
      rate = rw (← c.rate_log2.ensures, ← c.max-rate_tiles_log2.ensures) c.saturating_sub-rate_rows_log2.ensures;
    }) l.ensures.max_rows c.if-rate_rows_log2-limits.false
    c.saturating_sub-min_tile_rows_log2.ensures rows_log2 c.align_power_of_two_and_shift-tile_height_sb.ensures.value c.div_ceil.ensures

pub returns-clause-none : goal.returns-clause-none
returns-clause-none c = ok_only c.args.sb_size_log2 _ _ _ c.if-sb_size_log2-ne6.false (returns-clause-tiling c)
