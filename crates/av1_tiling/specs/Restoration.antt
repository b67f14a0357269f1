-- The units of loop restoration (AV1 specification, sections 5.9.20 and 7.17): how they lie in a plane, which one a stripe
-- takes, and what a bitstream can say of one (section 5.11.58).
use Rattle.std.specs.Prelude.{ℕ, ℤ, pos, neg_ℤ, ◌+◌, ◌-◌, ◌*◌, ◌/◌, ◌<◌, ◌≤ℤ◌, ◌≡◌, List, [], length, min, replicate}
use Rattle.std.specs.List.{slice_index_or}
use Rattle.av1_plane.specs.declared.three.Three.{Three}
use Rattle.av1_block.specs.declared.restoration_unit.RestorationFilter.{RestorationFilter}
use Rattle.av1_block.specs.declared.restoration_unit.RestorationFilter.TheVariants.{None, Wiener, Sgrproj}
use Rattle.av1_block.specs.declared.restoration_unit.RestorationUnit.{RestorationUnit}
use Rattle.av1_block.specs.RestorationUnit.{no_unit}
use Rattle.av1_tiling.specs.declared.restoration_plane.RestorationPlaneConfig.{RestorationPlaneConfig}
use Rattle.av1_tiling.specs.declared.restoration_plane.RestorationPlane.{RestorationPlane}
use Rattle.av1_tiling.specs.declared.restoration_state.RestorationState.{RestorationState}

-- the units of a plane: their layout, and the table of them, row by row
pub record Units : Type 0 where
  pub cfg : RestorationPlaneConfig
  pub cols : ℕ
  pub rows : ℕ
  pub entries : List RestorationUnit

-- the units of a plane, as plain data
abbrev pub units_of : RestorationPlane → Units
units_of p = record { cfg = p.cfg; cols = p.units.cols; rows = p.units.rows; entries = p.units.entries }

-- the units of all planes, as plain data
abbrev pub units_in : RestorationState → Three Units
units_in s = record { y = units_of s.planes.y; u = units_of s.planes.u; v = units_of s.planes.v }

-- how the units of all planes lie
abbrev pub layouts_of : Three Units → Three RestorationPlaneConfig
layouts_of s = record { y = s.y.cfg; u = s.u.cfg; v = s.v.cfg }

-- the row of units that stripe k takes: that of the stripe's place, or the last one
abbrev pub unit_row : Units → ℕ → ℕ
unit_row u k = min (k * u.cfg.stripe_height / u.cfg.unit_size) (u.rows - 1)

-- the unit of stripe k in a column of units, or in the last one
abbrev pub unit_by_stripe : Units → ℕ → ℕ → RestorationUnit
unit_by_stripe u k column = slice_index_or u.entries (unit_row u k * u.cols + min column (u.cols - 1)) no_unit

-- a plane has a unit, and its table has the sides that the layout says
pub record HasUnits (u : Units) : Type 0 where
  pub some_cols : 0 < u.cols
  pub some_rows : 0 < u.rows
  pub some_size : 0 < u.cfg.unit_size
  pub cols : u.cols ≡ u.cfg.cols
  pub rows : u.rows ≡ u.cfg.rows

-- a plane's units have this layout, whatever their filters
pub record HasLayout (cfg : RestorationPlaneConfig) (u : Units) : Type 0 where
  pub layout : u.cfg ≡ cfg
  pub cols : u.cols ≡ cfg.cols
  pub rows : u.rows ≡ cfg.rows
  pub entries : length u.entries ≡ cfg.cols * cfg.rows

-- the units of a layout, all without a filter
abbrev pub blank_units : RestorationPlaneConfig → Units
blank_units cfg = record { cfg = cfg; cols = cfg.cols; rows = cfg.rows; entries = replicate (cfg.cols * cfg.rows) no_unit }

-- three coefficients of a Wiener filter
pub record AreCoeffs (cs : List ℤ) : Type 0 where
  pub a_low : neg_ℤ (pos 5) ≤ℤ slice_index_or cs 0 (pos 0)
  pub a_high : slice_index_or cs 0 (pos 0) ≤ℤ pos 10
  pub b_low : neg_ℤ (pos 23) ≤ℤ slice_index_or cs 1 (pos 0)
  pub b_high : slice_index_or cs 1 (pos 0) ≤ℤ pos 8
  pub c_low : neg_ℤ (pos 17) ≤ℤ slice_index_or cs 2 (pos 0)
  pub c_high : slice_index_or cs 2 (pos 0) ≤ℤ pos 46

-- the coefficients for the sums down a column
abbrev pub down_coeffs : List (List ℤ) → List ℤ
down_coeffs coeffs = slice_index_or coeffs 0 []

-- the coefficients for the sums across a row
abbrev pub across_coeffs : List (List ℤ) → List ℤ
across_coeffs coeffs = slice_index_or coeffs 1 []

-- the weights of both passes of the self-guided filter
pub record ArePassWeights (xqd : List ℤ) : Type 0 where
  pub first_low : neg_ℤ (pos 96) ≤ℤ slice_index_or xqd 0 (pos 0)
  pub first_high : slice_index_or xqd 0 (pos 0) ≤ℤ pos 31
  pub second_low : neg_ℤ (pos 32) ≤ℤ slice_index_or xqd 1 (pos 0)
  pub second_high : slice_index_or xqd 1 (pos 0) ≤ℤ pos 95

-- a filter that a bitstream can describe
abbrev pub IsFilter : RestorationFilter → Type 0
IsFilter None = Unit {0}
IsFilter (Wiener coeffs) = AreCoeffs (down_coeffs coeffs) × AreCoeffs (across_coeffs coeffs)
IsFilter (Sgrproj set xqd) = (set < 16) × ArePassWeights xqd

-- a unit that a bitstream can describe
abbrev pub IsUnit : RestorationUnit → Type 0
IsUnit unit = IsFilter unit.filter

-- a table of units that a bitstream can describe
pub record AreUnits (u : Units) : Type 0 where
  pub each : (i : ℕ) → i < length u.entries → IsUnit (slice_index_or u.entries i no_unit)

-- the units of all planes are such as a bitstream can describe
pub record AreFrameUnits (s : Three Units) : Type 0 where
  pub y : AreUnits s.y
  pub u : AreUnits s.u
  pub v : AreUnits s.v
