-- The tiles of every header's grid lie in its frame, and what their rectangles are in superblocks of 64 samples.
use Rattle.std.proofs.Common.{◌≡◌, ℕ, ◌-◌, ◌*◌, ◌/◌, ◌^◌, ◌<◌, ◌≤◌, min, Bool, true, false, cond, eqb, lit≤, Option, Some, None, Result, Ok, Err, refl, sym, subst, arith}
use Rattle.std.proofs.Math.Nat.{div-le_self}
use Rattle.std.proofs.lemmas.Nat.{pow_pos}
use Rattle.av1_tiling.proofs.GridFacts.{div_ceil-le}
use Rattle.av1_plane.specs.declared.three.Three.{Three}
use Rattle.av1_tiling.specs.declared.restoration_plane.RestorationPlaneConfig.{RestorationPlaneConfig}
use Rattle.av1_tiling.specs.UnitSizes.{unit_log2, unit_layout, unit_layouts, unit_sizes, shifts}
use Rattle.av1_rec.specs.UnitTables.{IsUnitLayout}
use Rattle.std.specs.Int.{div_ceil}
use Rattle.av1_tiling.specs.declared.tiling_info.TilingInfo.{TilingInfo}
use Rattle.av1_tiling.specs.Frames.{Parameters, is_422}
use Rattle.av1_tiling.specs.Grid.{grid, round_up}
use Rattle.av1_tiling.specs.TileRects.{tile_superblock, tile_luma, tile_samples, tile_blocks, tile_units}
use Rattle.av1_tiling.proofs.TilingFacts.{IsTiling, grid_is, grid-sides}
use Rattle.av1_tiling.proofs.TilePlaces.{tile_luma-inside, tile_count-le}
use Rattle.av1_tiling.proofs.LawProofs.{cols-pos, tile_high-pos}
use Rattle.av1_rec.specs.declared.text.fault.Fault.{Fault}
use Rattle.av1_rec.specs.declared.text.fault.Fault.TheVariants.{NoTiling}
use Rattle.av1_rec.specs.declared.text.header.Header.{Header}
use Rattle.av1_rec.specs.Text.{tiling}
use Rattle.av1_rec.specs.Tiles.{IsTileNumber, AreTiles}

-- the tiling that a header has is the grid of its frame
pub grid_found : (h : Header) (t : TilingInfo) → tiling h ≡ Ok t
    → grid 6 h.format.width h.format.height h.target.num h.target.den h.target.cols_log2 h.target.rows_log2 (is_422 h.format.sampling) ≡ Some t
unfolding tiling
grid_found h t e = some_of (grid 6 h.format.width h.format.height h.target.num h.target.den h.target.cols_log2 h.target.rows_log2 (is_422 h.format.sampling)) e
  where
    some_of : (g : Option TilingInfo) → ◌≡◌ {A = Result TilingInfo Fault} (elim g [ Some x ↦ Ok x | None ↦ Err NoTiling ]) (Ok t) → g ≡ Some t
    some_of (Some x) e = cc
    some_of None e = absurd cc

-- each tile of a grid begins inside the frame, in superblocks of 64 samples
tile_of : (t : TilingInfo) (n : ℕ) → IsTiling t → t.sb_size_log2 ≡ 6 → n < t.cols * t.rows → IsTileNumber t n
tile_of t n h side inside =
    let lies = tile_luma-inside t n h inside in
    let wide = lies.wide in
    let high = lies.high in
    let x : (tile_superblock t n).0 * 2 ^ t.sb_size_log2 < t.frame_width = omega arith in
    let y : (tile_superblock t n).1 * 2 ^ t.sb_size_log2 < t.frame_height = omega arith in
    record {
      columns = cols-pos t h;
      side = side;
      x = subst (λ (s : ℕ). (tile_superblock t n).0 * 2 ^ s < t.frame_width) side x;
      y = subst (λ (s : ℕ). (tile_superblock t n).1 * 2 ^ s < t.frame_height) side y;
      wide = h.wide.1;
      high = h.high.1;
      whole_columns = h.wide.2;
      whole_rows = h.high.2;
      tile_wide = h.tile_wide;
      tile_high = tile_high-pos t h;
    }

-- the tiles of a header's grid begin inside the frame
pub header_tiles : (h : Header) (t : TilingInfo) → tiling h ≡ Ok t → AreTiles t
header_tiles h t e =
    let found = grid_found h t e in
    let is = grid_is 6 h.format.width h.format.height h.target.num h.target.den h.target.cols_log2 h.target.rows_log2 (is_422 h.format.sampling) t found in
    let side = (grid-sides 6 h.format.width h.format.height h.target.num h.target.den h.target.cols_log2 h.target.rows_log2 (is_422 h.format.sampling) t found).2 in
    record { few = tile_count-le t is; each = λ n inside. tile_of t n is side inside }

-- the rectangles, in superblocks of 64 samples
pub luma_rect : (t : TilingInfo) (n : ℕ) → t.sb_size_log2 ≡ 6 → tile_luma t n ≡ record {
  x = (tile_superblock t n).0 * 64;
  y = (tile_superblock t n).1 * 64;
  width = min (t.tile_width_sb * 64) (t.frame_width - (tile_superblock t n).0 * 64);
  height = min (t.tile_height_sb * 64) (t.frame_height - (tile_superblock t n).1 * 64);
}
luma_rect t n e = rw e refl

-- The samples of a tile's view, with superblocks of 64 samples.
pub samples_rect : (t : TilingInfo) (n : ℕ) → t.sb_size_log2 ≡ 6 → tile_samples t n ≡ record {
  x = (tile_luma t n).x;
  y = (tile_luma t n).y;
  width = round_up (tile_luma t n).width 64;
  height = round_up (tile_luma t n).height 64;
}
samples_rect t n e = rw e refl

-- The blocks of a tile, with superblocks of 64 samples.
pub blocks_rect : (t : TilingInfo) (n : ℕ) → t.sb_size_log2 ≡ 6 → tile_blocks t n ≡ record {
  x = (tile_superblock t n).0 * 16;
  y = (tile_superblock t n).1 * 16;
  width = min (t.tile_width_sb * 16) (t.frame_width / 4 - (tile_superblock t n).0 * 16);
  height = min (t.tile_height_sb * 16) (t.frame_height / 4 - (tile_superblock t n).1 * 16);
}
blocks_rect t n e = rw e refl

-- the units of a plane, in superblocks of 64 samples
pub units_rect : (t : TilingInfo) (h_shift v_shift cols rows n : ℕ) → t.sb_size_log2 ≡ 6 → tile_units t h_shift v_shift cols rows n ≡ record {
  x = min ((tile_superblock t n).0 / 2 ^ h_shift) cols;
  y = min ((tile_superblock t n).1 / 2 ^ v_shift) rows;
  width = min (div_ceil (min t.tile_width_sb (div_ceil t.frame_width 64 - (tile_superblock t n).0)) (2 ^ h_shift)) (cols - min ((tile_superblock t n).0 / 2 ^ h_shift) cols);
  height = min (div_ceil (min t.tile_height_sb (div_ceil t.frame_height 64 - (tile_superblock t n).1)) (2 ^ v_shift)) (rows - min ((tile_superblock t n).1 / 2 ^ v_shift) rows);
}
units_rect t h_shift v_shift cols rows n e = rw e refl

-- a side has no more units than superblocks, and a unit is no further on than its superblock
pub few_units : (superblock superblocks shift units : ℕ) → (min (superblock / 2 ^ shift) units ≤ superblock) × (min (div_ceil superblocks (2 ^ shift)) (units - min (superblock / 2 ^ shift) units) ≤ superblocks)
few_units superblock superblocks shift units =
    let some : 0 < 2 ^ shift = pow_pos shift in
    let first = div-le_self superblock (2 ^ shift) in
    let count = div_ceil-le superblocks (2 ^ shift) some in
    (omega (arith, first), omega (arith, count))

-- a unit has at most 256 samples a side
log_most : (a b c : Bool) → cond a 8 (cond b 7 (cond c 6 5)) ≤ 8
log_most true b c = lit≤ tt
log_most false true c = lit≤ tt
log_most false false true = lit≤ tt
log_most false false false = lit≤ tt

-- A unit has at most 2^8 superblocks a side.
shifts_most : (p : Parameters) (unit : ℕ) (d : ℕ × ℕ) → IsUnitLayout (unit_layout p unit d)
shifts_most p unit d =
    let most : unit_log2 unit ≤ 8 = log_most (eqb unit 256) (eqb unit 128) (eqb unit 64) in
    record { h_shift = omega (arith, most); v_shift = omega (arith, most) }

-- the units of a frame have at most 2^8 superblocks a side, in each plane
pub layout_shifts : (p : Parameters) (layouts : Three RestorationPlaneConfig) → layouts ≡ unit_layouts p → IsUnitLayout layouts.y × (IsUnitLayout layouts.u × IsUnitLayout layouts.v)
layout_shifts p layouts e =
    let sizes = unit_sizes p in
    subst (λ (l : Three RestorationPlaneConfig). IsUnitLayout l.y × (IsUnitLayout l.u × IsUnitLayout l.v)) (sym e)
    (shifts_most p sizes.luma (0, 0), (shifts_most p sizes.chroma (shifts p), shifts_most p sizes.chroma (shifts p)))
