-- Each tile lies in its frame and in its block table.
use Rattle.std.proofs.Common.{◌≡◌, ℕ, zero, suc, ◌+◌, ◌-◌, ◌*◌, ◌/◌, ◌%◌, ◌^◌, ◌<◌, ◌≤◌, min, Bool, true, false, cond, ltb, leb, Option, Some, None, refl, sym, ap, ◌∙◌, subst, arith}
use Rattle.std.specs.Prelude.{◌&&◌}
use Rattle.std.specs.Int.{div_ceil}
use Rattle.std.proofs.lemmas.Nat.{div_below, mod_below, pow_pos}
use Rattle.std.proofs.lemmas.Bool.{and_parts, leb-true}
use Rattle.std.proofs.Math.Nat.{mul_comm, mul-le-mul_right}
use Rattle.av1_plane.specs.declared.tile_rect.TileRect.{TileRect}
use Rattle.av1_plane.specs.Layout.{rounded}
use Rattle.av1_tiling.specs.declared.tiling_info.TilingInfo.{TilingInfo}
use Rattle.av1_tiling.specs.Grid.{grid, round_up, is_frame, is_side, tile_width, width_of}
use Rattle.av1_tiling.specs.TileRects.{tile_superblock, tile_luma, tile_blocks, superblock_columns, superblock_rows, block_columns, block_rows}
use Rattle.av1_tiling.specs.Frames.{State, AreMotionTables, IsTilingOf, LiesInFrame, is_422}
use Rattle.av1_tiling.proofs.GridFacts.{fewer_do_not, div_ceil-le, div_ceil-pos, div_ceil_side-le}
use Rattle.av1_tiling.proofs.TilingFacts.{IsTiling, grid_is}

-- A value that is given only under a test was given, and passed the test.
some_when : {A : Type 0} (b : Bool) (x : Option A) (t : A) → cond b x None ≡ Some t → (b ≡ true) × (x ≡ Some t)
some_when true x t e = (refl, e)
some_when false x t e = absurd (let f : None ≡ Some t = e in cc)

-- A value that is given unless a test holds is the given one.
some_unless : {A : Type 0} (b : Bool) (x t : A) → cond b None (Some x) ≡ Some t → x ≡ t
some_unless true x t e = absurd (let f : None ≡ Some t = e in cc)
some_unless false x t e = let f : Some x ≡ Some t = e in cc

-- what a grid takes over from the frame
pub record Taken (width height : ℕ) (t : TilingInfo) : Type 0 where
  pub six : t.sb_size_log2 ≡ 6
  pub wide : t.frame_width ≡ rounded width
  pub high : t.frame_height ≡ rounded height
  pub few : width ≤ 65536
  pub low : height ≤ 65536
  pub tile_wide : t.tile_width_sb < 2 ^ 20

-- a side rounded up to whole blocks, in both spellings
eights : (side : ℕ) → round_up side 8 ≡ rounded side
eights side = omega arith

-- A tile is narrower than 2^20 superblocks.
narrow : (sb_cols log2 : ℕ) (even : Bool) → sb_cols ≤ 1024 → width_of sb_cols log2 even < 2 ^ 20
narrow sb_cols log2 true h = let l = div_ceil-le sb_cols (2 ^ log2) (pow_pos log2) in omega arith
narrow sb_cols log2 false h = let l = div_ceil-le sb_cols (2 ^ log2) (pow_pos log2) in omega arith

-- A tile of a frame of at most 65536 samples is narrower than 2^20 superblocks.
narrow_tile : (side target : ℕ) (even : Bool) → side ≤ 65536 → tile_width 6 (div_ceil (round_up side 8) (2 ^ 6)) target even < 2 ^ 20
unfolding tile_width
narrow_tile side target even h = narrow _ _ even (div_ceil_side-le 6 (round_up side 8) (omega arith) (omega arith) (omega arith))

-- A grid belongs to the sides from which it was made.
pub grid_takes : (width height num den target_cols target_rows : ℕ) (even : Bool) (t : TilingInfo) → grid 6 width height num den target_cols target_rows even ≡ Some t → Taken width height t
grid_takes width height num den target_cols target_rows even t e =
    let framed = some_when (is_frame 6 width height den) _ t e in
    let made = some_unless _ _ t framed.1 in
    let sides = and_parts (is_side width) (is_side height && ltb 0 den) framed.0 in
    let few = leb-true width 65536 (and_parts (ltb 0 width) (leb width 65536) sides.0).1 in
    let low = leb-true height 65536 (and_parts (ltb 0 height) (leb height 65536) (and_parts (is_side height) (ltb 0 den) sides.1).0).1 in
    record {
      six = sym (ap (λ u. u.sb_size_log2) made);
      wide = sym (ap (λ u. u.frame_width) made) ∙ eights width;
      high = sym (ap (λ u. u.frame_height) made) ∙ eights height;
      few = few;
      low = low;
      tile_wide = subst (λ w. w < 2 ^ 20) (ap (λ u. u.tile_width_sb) made) (narrow_tile width target_cols even few);
    }

-- where tile n lies, with superblocks of 64 samples a side
pub record Placed (t : TilingInfo) (state : State) (cols rows n : ℕ) : Type 0 where
  pub six : t.sb_size_log2 ≡ 6
  pub some : 0 < t.cols
  pub tile_wide : t.tile_width_sb < 2 ^ 20
  pub tile_high : t.tile_height_sb < 2 ^ 20
  pub x : (tile_superblock t n).0 < 2 ^ 20
  pub y : (tile_superblock t n).1 < 2 ^ 20
  pub lies : LiesInFrame state (tile_superblock t n) t.sb_size_log2 (min (t.tile_width_sb * 64) (t.frame_width - (tile_superblock t n).0 * 64)) (min (t.tile_height_sb * 64) (t.frame_height - (tile_superblock t n).1 * 64))
  pub across : (tile_superblock t n).0 * 16 + min (t.tile_width_sb * 16) (block_columns t - (tile_superblock t n).0 * 16) ≤ cols
  pub down : (tile_superblock t n).1 * 16 + min (t.tile_height_sb * 16) (block_rows t - (tile_superblock t n).1 * 16) ≤ rows

-- A number below a product shows that the first factor is positive.
positive : (a b n : ℕ) → n < a * b → 0 < a
positive zero b n l = let e : zero * b ≡ 0 = omega arith in absurd (omega arith)
positive (suc a) b n l = omega arith

-- the i-th part of a side that is cut into parts of `part` superblocks begins inside the side
begins : (side part i : ℕ) → 0 < part → i < div_ceil (div_ceil side 64) part → i * part * 64 < side
begins side part i some l = fewer_do_not side 64 (i * part) (omega arith) (fewer_do_not (div_ceil side 64) part i some l)

-- what is known of every tiling holds of a frame's
pub tiling_facts : (t : TilingInfo) (state : State) (cols rows : ℕ) → IsTilingOf t state cols rows → IsTiling t
tiling_facts t state cols rows made = grid_is t.sb_size_log2 made.width made.height made.num made.den made.target_cols made.target_rows (is_422 made.sampling) t made.tiling

-- a frame's tiling is a grid of superblocks of 64 samples
of_64 : (t : TilingInfo) (state : State) (cols rows : ℕ) (made : IsTilingOf t state cols rows)
    → grid 6 made.width made.height made.num made.den made.target_cols made.target_rows (is_422 made.sampling) ≡ Some t
of_64 t state cols rows made = subst (λ s. grid s made.width made.height made.num made.den made.target_cols made.target_rows (is_422 made.sampling) ≡ Some t) made.built made.tiling

module _ (t : TilingInfo) (state : State) (cols rows : ℕ) (made : IsTilingOf t state cols rows) (n : ℕ) (l : n < t.cols * t.rows) where
  -- The tiling is a grid of the frame's sides.
  taken : Taken made.width made.height t
  taken = grid_takes made.width made.height made.num made.den made.target_cols made.target_rows (is_422 made.sampling) t (of_64 t state cols rows made)

  -- The tiling has what holds of every tiling.
  facts : IsTiling t
  facts = tiling_facts t state cols rows made

  -- The tiling has a column.
  some : 0 < t.cols
  some = positive t.cols t.rows n l

  -- The tile begins inside the frame's width.
  column : n % t.cols * t.tile_width_sb * 64 < t.frame_width
  column =
      let below : n % t.cols < div_ceil (div_ceil t.frame_width (2 ^ t.sb_size_log2)) t.tile_width_sb = subst (λ c. n % t.cols < c) facts.cols (mod_below n t.cols some) in
      begins t.frame_width t.tile_width_sb (n % t.cols) facts.tile_wide (subst (λ s. n % t.cols < div_ceil (div_ceil t.frame_width (2 ^ s)) t.tile_width_sb) taken.six below)

  -- How many rows of superblocks the frame has.
  sb_rows : ℕ
  sb_rows = div_ceil t.frame_height (2 ^ t.sb_size_log2)

  -- A tile is at least one superblock high.
  row_some : 0 < t.tile_height_sb
  row_some = subst (λ h. 0 < h) (sym facts.tile_high) (div_ceil-pos (superblock_rows t) (2 ^ t.tile_rows_log2) (div_ceil-pos t.frame_height (2 ^ t.sb_size_log2) facts.high.0 (pow_pos t.sb_size_log2)) (pow_pos t.tile_rows_log2))

  -- The tile begins inside the frame's height.
  row : n / t.cols * t.tile_height_sb * 64 < t.frame_height
  row =
      let below : n / t.cols < div_ceil (div_ceil t.frame_height (2 ^ t.sb_size_log2)) t.tile_height_sb =
      subst (λ c. n / t.cols < c) facts.rows (div_below n t.cols t.rows some (subst (λ m. n < m) (mul_comm t.cols t.rows) l)) in
      begins t.frame_height t.tile_height_sb (n / t.cols) row_some (subst (λ s. n / t.cols < div_ceil (div_ceil t.frame_height (2 ^ s)) t.tile_height_sb) taken.six below)

  -- A tile's height is below 2^20 superblocks.
  low_tile : t.tile_height_sb < 2 ^ 20
  low_tile =
      let h = div_ceil-le (superblock_rows t) (2 ^ t.tile_rows_log2) (pow_pos t.tile_rows_log2) in
      let e = facts.tile_high in
      let s = div_ceil-le t.frame_height (2 ^ t.sb_size_log2) (pow_pos t.sb_size_log2) in
      let w = facts.high.1 in
      omega arith

  -- The tile lies where the code takes it to lie.
  pub placed : Placed t state cols rows n
  placed =
      let c = column in
      let r = row in
      let wide = taken.wide in
      let high = taken.high in
      let few = taken.few in
      let low = taken.low in
      let columns = made.wide in
      let lines = made.high in
      record {
        six = taken.six;
        some = some;
        tile_wide = taken.tile_wide;
        tile_high = low_tile;
        x = omega arith;
        y = omega arith;
        lies = subst (λ s. LiesInFrame state (tile_superblock t n) s (min (t.tile_width_sb * 64) (t.frame_width - (tile_superblock t n).0 * 64)) (min (t.tile_height_sb * 64) (t.frame_height - (tile_superblock t n).1 * 64))) (sym made.built) (record {
          frame_width = made.width;
          frame_height = made.height;
          sampling = made.sampling;
          layout = made.layout;
          motion = subst (λ c. AreMotionTables c (rounded made.height / 4) state.frame_me_stats) (made.wide ∙ ap (λ (n : ℕ). n / 4) taken.wide)
              (subst (λ r. AreMotionTables cols r state.frame_me_stats) (made.high ∙ ap (λ (n : ℕ). n / 4) taken.high) made.motion);
          y_units = made.y_units.units;
          u_units = made.u_units.units;
          v_units = made.v_units.units;
          width_limit = few;
          height_limit = low;
          wide = omega arith;
          high = omega arith;
        });
        across = omega arith;
        down = omega arith;
      }

-- what the code computes with superblocks of 64 samples is what is defined
module _ (t : TilingInfo) (n : ℕ) (six : t.sb_size_log2 ≡ 6) where
  -- The width that the code computes is the width of the tile's luma.
  pub luma_width : min (t.tile_width_sb * 64) (t.frame_width - (tile_superblock t n).0 * 64) ≡ (tile_luma t n).width
  luma_width = subst (λ s. min (t.tile_width_sb * 64) (t.frame_width - (tile_superblock t n).0 * 64) ≡ min (t.tile_width_sb * 2 ^ s) (t.frame_width - (tile_superblock t n).0 * 2 ^ s)) (sym six) refl

  -- The height that the code computes is the height of the tile's luma.
  pub luma_height : min (t.tile_height_sb * 64) (t.frame_height - (tile_superblock t n).1 * 64) ≡ (tile_luma t n).height
  luma_height = subst (λ s. min (t.tile_height_sb * 64) (t.frame_height - (tile_superblock t n).1 * 64) ≡ min (t.tile_height_sb * 2 ^ s) (t.frame_height - (tile_superblock t n).1 * 2 ^ s)) (sym six) refl

  -- A rectangle with the place and sides of the tile's blocks is the rectangle of them.
  blocks_at : (r : TileRect) → r.x ≡ (tile_superblock t n).0 * 16 → r.y ≡ (tile_superblock t n).1 * 16
      → r.width ≡ min (t.tile_width_sb * 16) (block_columns t - (tile_superblock t n).0 * 16)
      → r.height ≡ min (t.tile_height_sb * 16) (block_rows t - (tile_superblock t n).1 * 16)
      → (s : ℕ) → s ≡ 6
      → r ≡ (let side = 2 ^ s / 4 in let x = (tile_superblock t n).0 * side in let y = (tile_superblock t n).1 * side in
      record { x = x; y = y; width = min (t.tile_width_sb * side) (block_columns t - x); height = min (t.tile_height_sb * side) (block_rows t - y) })
  blocks_at r ex ey ew eh s e = subst (λ (s : ℕ). r ≡ (let side = 2 ^ s / 4 in let x = (tile_superblock t n).0 * side in let y = (tile_superblock t n).1 * side in
      record { x = x; y = y; width = min (t.tile_width_sb * side) (block_columns t - x); height = min (t.tile_height_sb * side) (block_rows t - y) })) (sym e)
      (λ i. record { x = ex i; y = ey i; width = ew i; height = eh i })

  -- A rectangle that the code computes for a tile's blocks is the rectangle of them.
  pub blocks_are : (r : TileRect) → r.x ≡ (tile_superblock t n).0 * 16 → r.y ≡ (tile_superblock t n).1 * 16
      → r.width ≡ min (t.tile_width_sb * 16) (block_columns t - (tile_superblock t n).0 * 16)
      → r.height ≡ min (t.tile_height_sb * 16) (block_rows t - (tile_superblock t n).1 * 16)
      → r ≡ tile_blocks t n
  blocks_are r ex ey ew eh = blocks_at r ex ey ew eh t.sb_size_log2 six

-- a frame has few tiles
pub few_tiles : (t : TilingInfo) (state : State) (cols rows : ℕ) → IsTilingOf t state cols rows → t.cols * t.rows < 2 ^ 64
few_tiles t state cols rows made =
    let facts = tiling_facts t state cols rows made in
    let wide = div_ceil-le t.frame_width (2 ^ t.sb_size_log2) (pow_pos t.sb_size_log2) in
    let high = div_ceil-le t.frame_height (2 ^ t.sb_size_log2) (pow_pos t.sb_size_log2) in
    let across = div_ceil-le (superblock_columns t) t.tile_width_sb facts.tile_wide in
    let low : 0 < t.tile_height_sb = subst (λ h. 0 < h) (sym facts.tile_high) (div_ceil-pos (superblock_rows t) (2 ^ t.tile_rows_log2) (div_ceil-pos t.frame_height (2 ^ t.sb_size_log2) facts.high.0 (pow_pos t.sb_size_log2)) (pow_pos t.tile_rows_log2)) in
    let down = div_ceil-le (superblock_rows t) t.tile_height_sb low in
    let c = facts.cols in
    let r = facts.rows in
    let w = facts.wide.1 in
    let h = facts.high.1 in
    let few : t.cols ≤ 65536 = omega arith in
    let lines : t.rows ≤ 65536 = omega arith in
    let product : t.cols * t.rows ≤ 65536 * t.rows = mul-le-mul_right t.rows few in
    omega arith
