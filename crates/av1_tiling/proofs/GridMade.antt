-- The grid, put together from its parts.
use Rattle.std.proofs.Common.{◌≡◌, ℕ, ◌-◌, ◌*◌, ◌^◌, ◌<◌, ◌≤◌, ◌⊎◌, inl, inr, min, max, Bool, true, false, cond, ltb, eqb, Option, Some, None, Result, Ok, Err, ◌≢◌, refl, sym, ◌∙◌, arith}
use Rattle.std.specs.Prelude.{◌&&◌, ◌||◌}
use Rattle.std.specs.Int.{div_ceil, next_multiple_of}
use Rattle.std.proofs.lemmas.Bool.{true≢false, false≢true, cond-true, and_from, or_left, lt-ltb, le-ltb, eq-eqb}
use Rattle.av1_tiling.specs.Least.{tile_log2}
use Rattle.av1_tiling.specs.Grid.{round_up, clamp, is_side, is_frame, width_of, tile_width, rate_log2, min_cols_log2, max_count_log2, min_tiles_log2, grid}
use Rattle.av1_tiling.specs.declared.tiling_error.TilingError.{TilingError}
use Rattle.av1_tiling.specs.declared.tiling_info.TilingInfo.{TilingInfo}

-- a frame with superblocks of 64 samples and sides in range passes the test
pub is_frame-true : (s width height den : ℕ) → s ≡ 6 → is_side width ≡ true → is_side height ≡ true → 0 < den → is_frame s width height den ≡ true
is_frame-true s width height den e wide high some =
    and_from (eqb s 6 || eqb s 7) (is_side width && (is_side height && ltb 0 den)) (or_left (eqb s 6) (eqb s 7) (eq-eqb s 6 e))
    (and_from (is_side width) (is_side height && ltb 0 den) wide (and_from (is_side height) (ltb 0 den) high (lt-ltb 0 den some)))

-- Both ways to round up to a multiple of 8 agree.
pub next_multiple_of-eight : (n : ℕ) → next_multiple_of n 8 ≡ round_up n 8
next_multiple_of-eight n = omega arith

-- limits may be applied in either order
pub clamp_either : (v low high : ℕ) → low ≤ high → max low (min v high) ≡ clamp v low high
clamp_either v low high ordered = omega arith

-- the numbers of columns, and the rows that the rate asks for
pub record Columns (s width height num den target_cols : ℕ) (is_422 : Bool) (w h sb_cols sb_rows min_cols max_cols min_tiles width_sb cols cols_log2 rate_rows : ℕ) : Type 0 where
  pub wide : w ≡ round_up width 8
  pub high : h ≡ round_up height 8
  pub sb_wide : sb_cols ≡ div_ceil w (2 ^ s)
  pub sb_high : sb_rows ≡ div_ceil h (2 ^ s)
  pub least_cols : min_cols ≡ min_cols_log2 s sb_cols
  pub most_cols : max_cols ≡ max_count_log2 sb_cols
  pub least_tiles : min_tiles ≡ min_tiles_log2 s sb_cols sb_rows
  pub tile_wide : width_sb ≡ width_of sb_cols (clamp target_cols min_cols max_cols) is_422
  pub count : cols ≡ div_ceil sb_cols width_sb
  pub count_log2 : cols_log2 ≡ tile_log2 1 cols
  pub rate : rate_rows ≡ max min_tiles (rate_log2 (w * h) num den) - cols_log2

-- a frame that needs too many rows of tiles has no grid
pub grid-none : (s width height num den target_cols target_rows : ℕ) (is_422 : Bool) (w h sb_cols sb_rows min_cols max_cols min_tiles width_sb cols cols_log2 rate_rows max_rows : ℕ)
    → is_frame s width height den ≡ true
    → Columns s width height num den target_cols is_422 w h sb_cols sb_rows min_cols max_cols min_tiles width_sb cols cols_log2 rate_rows
    → max_rows ≡ max_count_log2 sb_rows → max_rows < rate_rows
    → grid s width height num den target_cols target_rows is_422 ≡ None
unfolding tile_width
grid-none s width height num den target_cols target_rows is_422 w h sb_cols sb_rows min_cols max_cols min_tiles width_sb cols cols_log2 rate_rows max_rows frame c e many =
    let test : ltb max_rows rate_rows ≡ true = lt-ltb max_rows rate_rows many in
    let test' = rw (e, c.rate, c.count_log2, c.count, c.tile_wide, c.least_tiles, c.most_cols, c.least_cols, c.sb_high, c.sb_wide, c.high, c.wide) at test in
    cond-true (is_frame s width height den) _ None frame ∙ cond-true _ None _ test'

-- a grid that passes both tests is given
chosen : {A : Type 0} (framed many : Bool) (x : A) → framed ≡ true → many ≡ false → cond framed (cond many None (Some x)) None ≡ Some x
chosen true false x e f = refl
chosen true true x e f = absurd (true≢false f)
chosen false many x e f = absurd (false≢true e)

-- the grid that is computed is the grid of the definition
pub grid-some : (s width height num den target_cols target_rows : ℕ) (is_422 : Bool) (w h sb_cols sb_rows min_cols max_cols min_tiles width_sb cols cols_log2 rate_rows max_rows min_rows rows_log2 tile_height rows : ℕ)
    → is_frame s width height den ≡ true
    → Columns s width height num den target_cols is_422 w h sb_cols sb_rows min_cols max_cols min_tiles width_sb cols cols_log2 rate_rows
    → max_rows ≡ max_count_log2 sb_rows → rate_rows ≤ max_rows
    → min_rows ≡ min_tiles - cols_log2
    → rows_log2 ≡ clamp (max target_rows min_rows) rate_rows max_rows
    → tile_height ≡ div_ceil sb_rows (2 ^ rows_log2)
    → rows ≡ div_ceil sb_rows tile_height
    → grid s width height num den target_cols target_rows is_422 ≡ Some (record {
      frame_width = w;
      frame_height = h;
      tile_width_sb = width_sb;
      tile_height_sb = tile_height;
      cols = cols;
      rows = rows;
      tile_cols_log2 = cols_log2;
      tile_rows_log2 = rows_log2;
      min_tile_cols_log2 = min_cols;
      max_tile_cols_log2 = max_cols;
      min_tile_rows_log2 = min_rows;
      max_tile_rows_log2 = max_rows;
      sb_size_log2 = s;
      min_tiles_log2 = min_tiles;
    })
unfolding tile_width
grid-some s width height num den target_cols target_rows is_422 w h sb_cols sb_rows min_cols max_cols min_tiles width_sb cols cols_log2 rate_rows max_rows min_rows rows_log2 tile_height rows frame c e few e_min e_rows e_height e_count =
    let test : ltb max_rows rate_rows ≡ false = le-ltb max_rows rate_rows few in
    let test' = rw (e, c.rate, c.count_log2, c.count, c.tile_wide, c.least_tiles, c.most_cols, c.least_cols, c.sb_high, c.sb_wide, c.high, c.wide) at test in
    rw (e_count, e_height, e_rows, e_min, e, c.rate, c.count_log2, c.count, c.tile_wide, c.least_tiles, c.most_cols, c.least_cols, c.sb_high, c.sb_wide, c.high, c.wide)
    (chosen _ _ _ frame test')

-- A tiling for superblocks of 64 samples can't be missing and have other superblocks.
neither : (s : ℕ) (g : Option TilingInfo) (t : TilingInfo) → s ≡ 6 → g ≡ Some t → (s ≢ 6) ⊎ (g ≡ None) → ⊥
neither s g t six some (inl other) = other six
neither s g t six some (inr none) = let e : None ≡ Some t = sym none ∙ some in cc

-- A tiling isn't an error.
ok_no_err : (t : TilingInfo) (e : TilingError) → ◌≡◌ {A = Result TilingInfo TilingError} (Ok t) (Err e) → ⊥
ok_no_err t e same = cc

-- a frame that has a grid gets no error
pub ok_only : (s : ℕ) (g : Option TilingInfo) (t : TilingInfo) (e : TilingError) → s ≡ 6 → g ≡ Some t
    → (◌≡◌ {A = Result TilingInfo TilingError} (Ok t) (Err e) → (s ≢ 6) ⊎ (g ≡ None))
    × ((s ≢ 6) ⊎ (g ≡ None) → ◌≡◌ {A = Result TilingInfo TilingError} (Ok t) (Err e))
ok_only s g t e six some = (λ same. absurd (ok_no_err t e same), λ h. absurd (neither s g t six some h))
