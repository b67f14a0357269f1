-- Where a tile lies in its frame.
use Rattle.std.proofs.Common.{◌≡◌, ℕ, ◌+◌, ◌*◌, ◌%◌, ◌/◌, ◌<◌, ◌≤◌, subst, arith}
use Rattle.std.specs.Int.{div_ceil}
use Rattle.std.proofs.lemmas.Nat.{pow_pos, mul-lt, mul-le, mod_below, div_below}
use Rattle.std.proofs.Math.Nat.{mul_comm}
use Rattle.av1_tiling.specs.TileRects.{superblock_side, tile_luma}
use Rattle.av1_tiling.specs.declared.tiling_info.TilingInfo.{TilingInfo}
use Rattle.av1_tiling.proofs.GridFacts.{fewer_do_not}
use Rattle.av1_tiling.proofs.TilingFacts.{IsTiling}
use Rattle.av1_tiling.proofs.LawProofs.{cols-pos, tile_high-pos, rows-le}

-- each part of a line begins inside the line
line_begins : (w frame side tiles i : ℕ) → 0 < w → 0 < side → tiles ≡ div_ceil (div_ceil frame side) w → i < tiles → i * w * side < frame
line_begins w frame side tiles i some some_side e l = fewer_do_not frame side (i * w) some_side (fewer_do_not (div_ceil frame side) w i some (subst (λ (x : ℕ). i < x) e l))

-- The row of a tile is below the number of rows.
row_below : (n cols rows : ℕ) → 0 < cols → n < cols * rows → n / cols < rows
row_below n cols rows some l = div_below n cols rows some (subst (λ (x : ℕ). n < x) (mul_comm cols rows) l)

-- a tile has samples, and they lie in the frame
pub record LiesInside (t : TilingInfo) (n : ℕ) : Type 0 where
  pub wide : 0 < (tile_luma t n).width
  pub high : 0 < (tile_luma t n).height
  pub columns : (tile_luma t n).x + (tile_luma t n).width ≤ t.frame_width
  pub rows : (tile_luma t n).y + (tile_luma t n).height ≤ t.frame_height

-- The luma rectangle of each tile lies inside the frame.
pub tile_luma-inside : (t : TilingInfo) (n : ℕ) → IsTiling t → n < t.cols * t.rows → LiesInside t n
tile_luma-inside t n h l =
    let side = superblock_side t in
    let some_side = pow_pos t.sb_size_log2 in
    let some = cols-pos t h in
    let x = line_begins t.tile_width_sb t.frame_width side t.cols (n % t.cols) h.tile_wide some_side h.cols (mod_below n t.cols some) in
    let y = line_begins t.tile_height_sb t.frame_height side t.rows (n / t.cols) (tile_high-pos t h) some_side h.rows (row_below n t.cols t.rows some l) in
    let w : 0 < t.tile_width_sb * side = mul-lt 0 0 t.tile_width_sb side h.tile_wide some_side in
    let v : 0 < t.tile_height_sb * side = mul-lt 0 0 t.tile_height_sb side (tile_high-pos t h) some_side in
    record { wide = omega arith; high = omega arith; columns = omega arith; rows = omega arith }

-- a tiling has at most 4096 tiles
pub tile_count-le : (t : TilingInfo) → IsTiling t → t.cols * t.rows ≤ 64 * 64
tile_count-le t h = mul-le t.cols t.rows 64 64 h.few_cols (rows-le t h)
