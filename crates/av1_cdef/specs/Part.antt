-- The blocks of a part of a plane, with the strengths of one index.
use Rattle.std.specs.Prelude.{ℕ, ℤ, pos, ◌≡◌, ◌<◌, ◌≤◌, ◌+◌, ◌-◌, ◌*◌, Bool, nat_lt, ◌&&◌, ◌==◌, if◌then◌else◌, List, [], length, slice_index}
use Rattle.std.specs.List.{slice_index_or}
use Rattle.std.specs.Int.RustNames.{unsigned_abs}
use Rattle.av1_block.specs.declared.block.Block.{Block}
use Rattle.av1_block.specs.Tables.{entry_at}
use Rattle.av1_cdef.specs.declared.settings.Settings.{Settings}
use Rattle.av1_cdef.specs.declared.pad.Sides.{Sides}
use Rattle.av1_cdef.specs.declared.part.Plan.{Plan}
use Rattle.av1_cdef.specs.declared.directions.CdefDirections.{CdefDirections}
use Rattle.av1_cdef.specs.Strength.{adjusted_strength}
use Rattle.av1_cdef.specs.Picture.{CdefPicture, sample_at, filtered_at}
use Rattle.av1_cdef.specs.Frame.{stretched}

-- the settings of a block with this direction and variance
abbrev pub settings_by : Plan → ℕ → ℕ → Settings
settings_by p dir var = record {
  direction = if p.primary == 0 then 0 else if p.stretched then stretched dir else dir;
  primary = if p.luma then adjusted_strength (p.primary * p.scale) var else p.primary * p.scale;
  secondary = p.secondary * p.scale;
  damping = p.damping;
  scale = p.scale;
}

-- whether all four units of a block are skipped
abbrev pub all_skipped : List Block → ℕ → ℕ → ℕ → Bool
all_skipped blocks step bx by =
    (entry_at blocks step (2 * bx) (2 * by)).skip
    && (entry_at blocks step (2 * bx + 1) (2 * by)).skip
    && (entry_at blocks step (2 * bx) (2 * by + 1)).skip
    && (entry_at blocks step (2 * bx + 1) (2 * by + 1)).skip

-- the sample at row i, column j of the block that starts at column x of row y
unfoldable pub copied_at : CdefPicture → ℕ → ℕ → ℕ → ℕ → ℤ
copied_at p x y i j = sample_at p (x + j) (y + i)

-- the sample at row i, column j of a block, copied or filtered
unfoldable pub block_sample : CdefPicture → Bool → Settings → ℕ → ℕ → ℕ → ℕ → ℤ
block_sample p skip s x y i j = if skip then copied_at p x y i j else filtered_at p s x y i j

-- on which sides block (bx, by) of a plane of cols by rows blocks has neighbours
abbrev pub sides_at : ℕ → ℕ → ℕ → ℕ → Sides
sides_at bx by cols rows = record { left = nat_lt 0 bx; right = nat_lt (bx + 1) cols; top = nat_lt 0 by; bottom = nat_lt (by + 1) rows }

-- the strengths and dampings of a plan are such as CDEF can have
pub record IsCdefPlan (p : Plan) : Type 0 where
  pub primary : p.primary ≤ 15
  pub secondary : p.secondary ≤ 4
  pub damping : p.damping ≤ 10
  pub scale : 0 < p.scale
  pub depth : p.scale ≤ 16

-- the direction of block (u, v) of a table
abbrev pub table_direction : CdefDirections → ℕ → ℕ → ℕ
table_direction d u v = slice_index (slice_index_or d.dir u []) v

-- the variance of block (u, v) of a table
abbrev pub table_variance : CdefDirections → ℕ → ℕ → ℤ
table_variance d u v = slice_index_or (slice_index_or d.var u []) v (pos 0)

-- the sample at row i, column j of block (u, v) of a region of whose frame block (tx, ty) is the first
unfoldable pub part_sample : CdefPicture → List Block → ℕ → Plan → CdefDirections → ℕ → ℕ → ℕ → ℕ → ℕ → ℕ → ℕ → ℕ → ℕ → ℕ → ℤ
part_sample p blocks step plan dirs tx ty w h left top u v i j =
    block_sample p (all_skipped blocks step u v)
    (settings_by plan (table_direction dirs (u - left) (v - top)) (unsigned_abs (table_variance dirs (u - left) (v - top))))
    (w * (tx + u)) (h * (ty + v)) i j

-- the entries of a table are directions, from 0 to 7
pub record AreDirections (d : CdefDirections) : Type 0 where
  pub columns : length d.dir ≡ 8
  pub rows : (u : ℕ) → u < 8 → length (slice_index_or d.dir u []) ≡ 8
  pub variance_columns : length d.var ≡ 8
  pub variance_rows : (u : ℕ) → u < 8 → length (slice_index_or d.var u []) ≡ 8
  pub each : (u v : ℕ) → u < 8 → v < 8 → table_direction d u v < 8
