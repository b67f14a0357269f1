-- Where a tile's restoration units stand: in the table, at the rectangle of its superblocks.
use Rattle.std.proofs.Common.{◌≡◌, ℕ, ◌+◌, ◌-◌, ◌*◌, ◌^◌, ◌<◌, ◌≤◌, min, inl, inr, sym, ap, ◌∙◌, arith}
use Rattle.std.proofs.Math.Nat.{mul-le-mul_right, mul_comm}
use Rattle.std.specs.Int.{div_ceil}
use Rattle.av1_block.specs.Cut.{LiesIn}
use Rattle.av1_tiling.specs.Frames.{unit_part}
use Rattle.av1_tiling.specs.Restoration.{Units}
use Rattle.av1_tiling.specs.TileRects.{units_rect, tile_units, tile_superblock, tile_luma}
use Rattle.av1_tiling.specs.declared.tiling_info.TilingInfo.{TilingInfo}
use Rattle.av1_tiling.proofs.TilingFacts.{IsTiling}
use Rattle.av1_tiling.proofs.Quotients.{div_ceil-from, div_ceil-le_of, div_ceil-part}
use Rattle.std.proofs.lemmas.Bool.{cases_lt}
use Rattle.std.proofs.lemmas.Nat.{pow_pos}

-- a rectangle that is cut to a table lies in it
pub units_lie : (cols rows n : ℕ) (superblock superblocks shifts : ℕ × ℕ) → n ≡ cols * rows
    → (let r = units_rect superblock superblocks shifts (cols, rows) in LiesIn n cols r.x r.y r.width r.height)
units_lie cols rows n superblock superblocks shifts long =
    let r = units_rect superblock superblocks shifts (cols, rows) in
    let across : r.x + r.width ≤ cols = omega arith in
    let below : r.y + r.height ≤ rows = omega arith in
    let area : (r.y + r.height) * cols ≤ rows * cols = mul-le-mul_right cols below in
    let turned : cols * rows ≡ rows * cols = mul_comm cols rows in
    record { across = across; down = omega arith }

-- along one side, a tile cut to the frame has its superblocks cut to the frame's
superblocks_are : (part side frame first : ℕ) → 0 < side → div_ceil (min (part * side) (frame - first * side)) side ≡ min part (div_ceil frame side - first)
superblocks_are part side frame first some = elim (cases_lt frame (first * side)) [
  | inl past ↦
      let none : min (part * side) (frame - first * side) ≡ 0 = omega arith in
      let low : div_ceil frame side ≤ first = div_ceil-le_of frame side first some (omega arith) in
      let right : min part (div_ceil frame side - first) ≡ 0 = omega arith in
      ap (λ (n : ℕ). div_ceil n side) none ∙ (div_ceil-from 0 side 0 some (omega arith) (omega arith) ∙ sym right)
  | inr inside ↦ div_ceil-part part first frame side some inside
]

-- the units that are cut out are the tile's
pub unit_rect_is : (t : TilingInfo) → IsTiling t → (u : Units) (n : ℕ) → n < t.cols * t.rows
    → (unit_part u (tile_superblock t n) (div_ceil (tile_luma t n).width (2 ^ t.sb_size_log2), div_ceil (tile_luma t n).height (2 ^ t.sb_size_log2))).rect
    ≡ tile_units t u.cfg.sb_h_shift u.cfg.sb_v_shift u.cols u.rows n
unit_rect_is t facts u n l =
    let some : 0 < 2 ^ t.sb_size_log2 = pow_pos t.sb_size_log2 in
    let wide = superblocks_are t.tile_width_sb (2 ^ t.sb_size_log2) t.frame_width (tile_superblock t n).0 some in
    let high = superblocks_are t.tile_height_sb (2 ^ t.sb_size_log2) t.frame_height (tile_superblock t n).1 some in
    λ i. units_rect (tile_superblock t n) (wide i, high i) (u.cfg.sb_h_shift, u.cfg.sb_v_shift) (u.cols, u.rows)
