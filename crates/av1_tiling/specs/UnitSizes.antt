-- How large the units of loop restoration are (AV1 specification, section 5.9.20). A bitstream names their sizes; these are
-- the ones that an encoder chooses here, from the quantiser, the frame's sides and the tiles.
use Rattle.std.specs.Prelude.{ℕ, Bool, not, ◌+◌, ◌-◌, ◌*◌, ◌/◌, ◌%◌, ◌^◌, ◌==◌, ◌&&◌, ◌||◌, nat_le, nat_lt, min, max, if◌then◌else◌, unwrap_or}
use Rattle.std.specs.Int.{w64, trailing_zeros}
use Rattle.av1_plane.specs.declared.three.Three.{Three}
use Rattle.av1_plane.specs.Layout.{visible}
use Rattle.av1_plane.specs.Sampling.{decimation}
use Rattle.av1_tiling.specs.declared.unit_sizes.UnitSizes.{UnitSizes}
use Rattle.av1_tiling.specs.declared.restoration_plane.RestorationPlaneConfig.{RestorationPlaneConfig}
use Rattle.av1_tiling.specs.Parameters.{Parameters}
use Rattle.av1_tiling.specs.Restoration.{Units, HasLayout, blank_units}

-- the powers of two by which chroma is narrower and lower than luma; 0 where there is no chroma
abbrev pub shifts : Parameters → ℕ × ℕ
shifts p = unwrap_or (decimation p.sequence.chroma_sampling) (0, 0)

-- whether chroma is halved both ways
abbrev pub is_420 : ℕ × ℕ → Bool
is_420 d = d.1 == 1

-- the logarithm of the side of a frame's superblocks
abbrev pub superblock_log2 : Parameters → ℕ
superblock_log2 p = if p.sequence.use_128x128_superblock then 7 else 6

-- how often 256 is halved for a unit's side: the finer the quantiser, the smaller the unit
abbrev pub base_shift : Parameters → ℕ
base_shift p =
    if nat_lt 200 p.base_q_idx then 0
    else if nat_lt 160 p.base_q_idx || p.sequence.use_128x128_superblock then 1 else 2

-- whether at most half a unit is left of a side, so that the last unit is stretched
abbrev pub is_stretched_side : ℕ → ℕ → Bool
is_stretched_side unit side = nat_le ((side / 2 - 1) % unit) (unit / 2)

-- whether a unit is stretched in a frame's chroma planes
abbrev pub is_stretched : Parameters → ℕ → Bool
is_stretched p unit = is_stretched_side unit p.width || is_stretched_side unit p.height

-- by which power of two a chroma unit is smaller: 1 at the smallest size and to avoid stretching, else 0
abbrev pub chroma_shift : Parameters → ℕ
chroma_shift p =
    let unit = 256 / 2 ^ base_shift p in
    if base_shift p == 2 || (is_stretched p unit && not (is_stretched p (unit / 2))) then 1 else 0

-- the sizes of units by the quantiser
abbrev pub large_sizes : Parameters → UnitSizes
large_sizes p =
    let unit = 256 / 2 ^ base_shift p in
    record { luma = unit; chroma = if is_420 (shifts p) then unit / 2 ^ chroma_shift p else unit }

-- the sizes of units of one superblock, in chroma halved with the planes
abbrev pub small_sizes : Parameters → UnitSizes
small_sizes p =
    let side = 2 ^ superblock_log2 p in
    record { luma = side; chroma = if is_420 (shifts p) then side / 2 else side }

-- the wanted sizes: large units are a choice of the sequence, made only where units are coded
abbrev pub wanted_sizes : Parameters → UnitSizes
wanted_sizes p =
    if p.sequence.enable_large_lru && p.sequence.enable_restoration then large_sizes p else small_sizes p

-- a unit's side, kept so small that a tile has whole units: at most as many superblocks as the
-- greatest power of two that divides the tile's sides
abbrev pub kept_in_tiles : Parameters → ℕ × ℕ → ℕ → ℕ
kept_in_tiles p d unit =
    let side = 2 ^ superblock_log2 p in
    let t = p.sequence.tiling in
    min (min unit (side / 2 ^ d.0 * 2 ^ trailing_zeros w64 t.tile_width_sb))
    (side / 2 ^ d.1 * 2 ^ trailing_zeros w64 t.tile_height_sb)

-- the sizes that the tiles allow; a frame of one tile keeps the wanted ones
abbrev pub tile_sizes : Parameters → UnitSizes
tile_sizes p =
    let wanted = wanted_sizes p in
    if nat_lt 1 p.sequence.tiling.cols || nat_lt 1 p.sequence.tiling.rows
    then record {
      luma = kept_in_tiles p (0, 0) wanted.luma;
      chroma = kept_in_tiles p (shifts p) wanted.chroma;
    }
    else wanted

-- the sizes of a frame's units; they differ only where chroma is halved both ways
unfoldable pub unit_sizes : Parameters → UnitSizes
unit_sizes p =
    let kept = tile_sizes p in
    let least = min kept.luma kept.chroma in
    if is_420 (shifts p) then kept else record { luma = least; chroma = least }

-- how many units a side has; a rest of less than half a unit belongs to the last one
abbrev pub unit_count : ℕ → ℕ → ℕ
unit_count unit side = max 1 ((side + unit / 2) / unit)

-- the logarithm of a unit's side, which is 32, 64, 128 or 256
abbrev pub unit_log2 : ℕ → ℕ
unit_log2 unit = if unit == 256 then 8 else if unit == 128 then 7 else if unit == 64 then 6 else 5

-- the layout of units of this side in a plane that is smaller than luma by these shifts;
-- a unit may have any filter
abbrev pub unit_layout : Parameters → ℕ → ℕ × ℕ → RestorationPlaneConfig
unit_layout p unit d = record {
  lrf_type = 1;
  unit_size = unit;
  sb_h_shift = unit_log2 unit - (superblock_log2 p - d.0);
  sb_v_shift = unit_log2 unit - (superblock_log2 p - d.1);
  sb_cols = p.sb_width;
  sb_rows = p.sb_height;
  stripe_height = 64 / 2 ^ d.1;
  cols = unit_count unit (visible p.width d.0);
  rows = unit_count unit (visible p.height d.1);
}

-- the layouts of the units of all planes
abbrev pub unit_layouts : Parameters → Three RestorationPlaneConfig
unit_layouts p =
    let sizes = unit_sizes p in
    let chroma = unit_layout p sizes.chroma (shifts p) in
    record { y = unit_layout p sizes.luma (0, 0); u = chroma; v = chroma }

-- units are made for a frame: they have its layouts, whatever their filters
pub record AreUnitsFor (p : Parameters) (s : Three Units) : Type 0 where
  pub y : HasLayout (unit_layouts p).y s.y
  pub u : HasLayout (unit_layouts p).u s.u
  pub v : HasLayout (unit_layouts p).v s.v

-- a frame's units as they start
abbrev pub start_units : Parameters → Three Units
start_units p =
    let layouts = unit_layouts p in
    record { y = blank_units layouts.y; u = blank_units layouts.u; v = blank_units layouts.v }
