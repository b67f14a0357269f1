-- What is known of every tiling.
use Rattle.std.proofs.Common.{◌≡◌, ℕ, ◌%◌, ◌^◌, ◌<◌, ◌≤◌, ◌⊎◌, inl, inr, Bool, true, false, cond, ltb, leb, eqb, Option, Some, None, refl, sym, ap, subst, arith}
use Rattle.std.specs.Prelude.{◌&&◌, ◌||◌}
use Rattle.std.specs.Int.{div_ceil}
use Rattle.std.proofs.lemmas.Bool.{and_parts, or_cases, ltb-true, leb-true, eqb-true}
use Rattle.std.proofs.lemmas.Nat.{pow_pos, mul-le}
use Rattle.std.proofs.Math.Nat.{pow-le-pow_right}
use Rattle.av1_tiling.specs.Least.{tile_log2}
use Rattle.av1_tiling.specs.Grid.{round_up, clamp, is_side, is_frame, width_of, tile_width, min_cols_log2, max_count_log2, grid}
use Rattle.av1_tiling.specs.TileRects.{superblock_columns, superblock_rows}
use Rattle.av1_tiling.specs.declared.tiling_info.TilingInfo.{TilingInfo}
use Rattle.av1_tiling.proofs.GridFacts.{parts_hold, div_ceil-pos, max_count_log2-le}
use Rattle.av1_tiling.proofs.Quotients.{div_ceil-le_of}

-- a tiling's numbers, as far as its rectangles rest on them
pub record IsTiling (t : TilingInfo) : Type 0 where
  pub side : (t.sb_size_log2 ≡ 6) ⊎ (t.sb_size_log2 ≡ 7)
  pub wide : (0 < t.frame_width) × (t.frame_width ≤ 65536) × (t.frame_width % 8 ≡ 0)
  pub high : (0 < t.frame_height) × (t.frame_height ≤ 65536) × (t.frame_height % 8 ≡ 0)
  pub tile_wide : 0 < t.tile_width_sb
  pub cols : t.cols ≡ div_ceil (superblock_columns t) t.tile_width_sb
  pub rows : t.rows ≡ div_ceil (superblock_rows t) t.tile_height_sb
  pub few_cols : t.cols ≤ 64
  pub cols_log2 : t.tile_cols_log2 ≡ tile_log2 1 t.cols
  pub rows_log2 : t.tile_rows_log2 ≤ max_count_log2 (superblock_rows t)
  pub tile_high : t.tile_height_sb ≡ div_ceil (superblock_rows t) (2 ^ t.tile_rows_log2)

-- A value that is given only under a test was given, and passed the test.
some_when : {A : Type 0} (b : Bool) (x : Option A) (t : A) → cond b x None ≡ Some t → (b ≡ true) × (x ≡ Some t)
some_when true x t e = (refl, e)
some_when false x t e = absurd (let f : None ≡ Some t = e in cc)

-- A value that is given unless a test holds was given, and failed the test.
some_unless : {A : Type 0} (b : Bool) (x t : A) → cond b None (Some x) ≡ Some t → (b ≡ false) × (x ≡ t)
some_unless true x t e = absurd (let f : None ≡ Some t = e in cc)
some_unless false x t e = (refl, let f : Some x ≡ Some t = e in cc)

-- a side of a frame, rounded up to whole blocks, is positive and at most 65536
whole_side : (side : ℕ) → is_side side ≡ true → (0 < round_up side 8) × (round_up side 8 ≤ 65536) × (round_up side 8 % 8 ≡ 0)
whole_side side h =
    let parts = and_parts (ltb 0 side) (leb side 65536) h in
    let some = ltb-true 0 side parts.0 in
    let most = leb-true side 65536 parts.1 in
    (omega arith, omega arith, omega arith)

-- A logarithm that passes the test of a superblock's side is 6 or 7.
side_of : (s : ℕ) → (eqb s 6 ≡ true) ⊎ (eqb s 7 ≡ true) → (s ≡ 6) ⊎ (s ≡ 7)
side_of s (inl e) = inl (eqb-true s 6 e)
side_of s (inr e) = inr (eqb-true s 7 e)

-- A tile has at least one column of superblocks.
width_pos : (sb_cols log2 : ℕ) (is_422 : Bool) → 0 < sb_cols → 0 < width_of sb_cols log2 is_422
width_pos sb_cols log2 true some = let w = div_ceil-pos sb_cols (2 ^ log2) some (pow_pos log2) in omega arith
width_pos sb_cols log2 false some = div_ceil-pos sb_cols (2 ^ log2) some (pow_pos log2)

-- a tile is at least as wide as the number of columns asks for
width_least : (sb_cols log2 : ℕ) (is_422 : Bool) → div_ceil sb_cols (2 ^ log2) ≤ width_of sb_cols log2 is_422
width_least sb_cols log2 true = omega arith
width_least sb_cols log2 false = omega arith

-- A frame has at most 64 columns of tiles.
few_of : (sb_cols log2 : ℕ) (is_422 : Bool) → 0 < sb_cols → log2 ≤ 6 → div_ceil sb_cols (width_of sb_cols log2 is_422) ≤ 64
few_of sb_cols log2 is_422 some few =
    let width = width_of sb_cols log2 is_422 in
    let held = (parts_hold sb_cols (2 ^ log2) (pow_pos log2)).0 in
    let power : 2 ^ log2 ≤ 2 ^ 6 = pow-le-pow_right (omega arith) few in
    let wider = mul-le (div_ceil sb_cols (2 ^ log2)) (2 ^ log2) width (2 ^ 6) (width_least sb_cols log2 is_422) power in
    div_ceil-le_of sb_cols width 64 (width_pos sb_cols log2 is_422 some) (omega arith)

-- a tiling has at most 64 columns
cols_few : (s sb_cols target : ℕ) (is_422 : Bool) → 0 < sb_cols → div_ceil sb_cols (tile_width s sb_cols target is_422) ≤ 64
unfolding tile_width
cols_few s sb_cols target is_422 some =
    let most = max_count_log2-le sb_cols in
    few_of sb_cols (clamp target (min_cols_log2 s sb_cols) (max_count_log2 sb_cols)) is_422 some (omega arith)

-- The tile width for any target is at least one superblock.
pub tile_width-pos : (s sb_cols target : ℕ) (is_422 : Bool) → 0 < sb_cols → 0 < tile_width s sb_cols target is_422
unfolding tile_width
tile_width-pos s sb_cols target is_422 some = width_pos sb_cols _ is_422 some

-- A grid has what holds of every tiling.
pub grid_is : (s width height num den target_cols target_rows : ℕ) (is_422 : Bool) (t : TilingInfo) → grid s width height num den target_cols target_rows is_422 ≡ Some t → IsTiling t
grid_is s width height num den target_cols target_rows is_422 t e =
    let framed = some_when (is_frame s width height den) _ t e in
    let made = some_unless _ _ t framed.1 in
    let parts = and_parts (eqb s 6 || eqb s 7) (is_side width && (is_side height && ltb 0 den)) framed.0 in
    let sides = and_parts (is_side width) (is_side height && ltb 0 den) parts.1 in
    let wide = whole_side width sides.0 in
    let high = whole_side height (and_parts (is_side height) (ltb 0 den) sides.1).0 in
    subst IsTiling made.1 (record {
      side = side_of s (or_cases (eqb s 6) (eqb s 7) parts.0);
      wide = wide;
      high = high;
      tile_wide = tile_width-pos s (div_ceil (round_up width 8) (2 ^ s)) target_cols is_422 (div_ceil-pos (round_up width 8) (2 ^ s) wide.0 (pow_pos s));
      cols = refl;
      rows = refl;
      few_cols = cols_few s (div_ceil (round_up width 8) (2 ^ s)) target_cols is_422 (div_ceil-pos (round_up width 8) (2 ^ s) wide.0 (pow_pos s));
      cols_log2 = refl;
      rows_log2 = omega arith;
      tile_high = refl;
    })

-- a tiling has the sides of the frame that it was made for
pub grid-sides : (s width height num den target_cols target_rows : ℕ) (is_422 : Bool) (t : TilingInfo) → grid s width height num den target_cols target_rows is_422 ≡ Some t
    → (t.frame_width ≡ round_up width 8) × (t.frame_height ≡ round_up height 8) × (t.sb_size_log2 ≡ s)
grid-sides s width height num den target_cols target_rows is_422 t e =
    let framed = some_when (is_frame s width height den) _ t e in
    let made = some_unless _ _ t framed.1 in
    (sym (ap (λ (x : TilingInfo). x.frame_width) made.1), sym (ap (λ (x : TilingInfo). x.frame_height) made.1), sym (ap (λ (x : TilingInfo). x.sb_size_log2) made.1))

-- tiles of a 4:2:2 frame have an even number of superblocks across
even_width : (s sb_cols target : ℕ) → tile_width s sb_cols target true % 2 ≡ 0
unfolding tile_width
even_width s sb_cols target = omega arith

-- At 4:2:2 the tiles of a grid have an even width.
pub grid-even : (s width height num den target_cols target_rows : ℕ) (is_422 : Bool) (t : TilingInfo) → grid s width height num den target_cols target_rows is_422 ≡ Some t → is_422 ≡ true
    → t.tile_width_sb % 2 ≡ 0
grid-even s width height num den target_cols target_rows is_422 t e chosen =
    let framed = some_when (is_frame s width height den) _ t e in
    let made = some_unless _ _ t framed.1 in
    let width_is : tile_width s (div_ceil (round_up width 8) (2 ^ s)) target_cols is_422 ≡ t.tile_width_sb = ap (λ (x : TilingInfo). x.tile_width_sb) made.1 in
    let even : tile_width s (div_ceil (round_up width 8) (2 ^ s)) target_cols is_422 % 2 ≡ 0 =
    subst (λ (b : Bool). tile_width s (div_ceil (round_up width 8) (2 ^ s)) target_cols b % 2 ≡ 0) (sym chosen) (even_width s (div_ceil (round_up width 8) (2 ^ s)) target_cols) in
    subst (λ (n : ℕ). n % 2 ≡ 0) width_is even
