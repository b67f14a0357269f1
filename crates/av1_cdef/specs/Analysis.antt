-- The directions of a 64x64 part of a frame (AV1 specification, section 7.15.2).
use Rattle.std.specs.Prelude.{ℕ, ℤ, pos, ◌≡◌, ◌<◌, ◌≤◌, ◌+◌, ◌-◌, ◌*◌, ◌/◌, ◌%◌, ◌^◌, Bool, nat_lt, ◌&&◌, not, if◌then◌else◌, List, map, replicate, length}
use Rattle.std.specs.List.{slice_index_or}
use Rattle.av1_plane.specs.Numbers.{InDepth}
use Rattle.av1_plane.specs.Place.{origin_place}
use Rattle.av1_plane.specs.declared.plane.Plane.{Plane}
use Rattle.av1_plane.specs.declared.frame.Frame.{Frame}
use Rattle.av1_block.specs.Tables.{TileBlocks, view_entries, view_step, view_x, view_y, view_cols, view_rows}
use Rattle.av1_tiling.specs.Frames.{Parameters}
use Rattle.av1_cdef.specs.declared.directions.CdefDirections.{CdefDirections}
use Rattle.av1_cdef.specs.Direction.{direction, direction_variance}
use Rattle.av1_cdef.specs.Picture.{CdefPicture, sample_at}
use Rattle.av1_cdef.specs.Frame.{Header, Deblocked, luma_block}
use Rattle.av1_cdef.specs.Part.{AreDirections, table_direction, table_variance, all_skipped}

-- A frame and a view of its blocks, as plain data.

-- the samples inside a plane, its margin left out, as CDEF takes them
abbrev pub plane_picture : {X : Type 0} → (X → ℤ) → Plane X → CdefPicture
plane_picture number p = record {
  samples = map number p.samples.items;
  origin = origin_place p.cfg;
  step = p.cfg.stride;
  width = p.cfg.width;
  height = p.cfg.height;
}

-- what CDEF takes from a frame's parameters
abbrev pub header_of : Parameters → Header
header_of p = record {
  bit_depth = p.sequence.bit_depth;
  damping = p.cdef_damping;
  luma_strengths = p.cdef_y_strengths;
  chroma_strengths = p.cdef_uv_strengths;
}

-- a luma picture and a view of its blocks that starts at block (x, y)
abbrev pub deblocked_by : Parameters → CdefPicture → TileBlocks → ℕ → ℕ → Deblocked
deblocked_by params p b x y = record {
  header = header_of params;
  luma = p;
  blocks = view_entries b;
  step = view_step b;
  x = x;
  y = y;
  cols = view_cols b;
  rows = view_rows b;
}

-- a frame with these parameters, seen from a view of its blocks
abbrev pub deblocked_of : {X : Type 0} → (X → ℤ) → Parameters → Frame X → TileBlocks → Deblocked
deblocked_of number params f b =
    deblocked_by params (plane_picture number f.planes.y) b (view_x b / 2) (view_y b / 2)

-- What the analysis asks of its arguments.

-- the samples of a picture are below a bound
pub record IsDeep (bound : ℕ) (p : CdefPicture) : Type 0 where
  pub each : (x y : ℕ) → x < p.width → y < p.height → InDepth bound (sample_at p x y)

-- a plane that can be read, and a view that starts on a superblock and whose blocks lie in it
pub record CanAnalyze {X : Type 0} (number : X → ℤ) (depth : ℕ) (p : Plane X) (b : TileBlocks) : Type 0 where
  pub low : 8 ≤ depth
  pub high : depth ≤ 12
  pub narrow : p.cfg.stride < 2 ^ 32
  pub some : 0 < p.cfg.height
  pub deep : IsDeep (256 * 2 ^ (depth - 8)) (plane_picture number p)
  pub left : view_x b % 16 ≡ 0
  pub top : view_y b % 16 ≡ 0
  pub cols : view_cols b % 2 ≡ 0
  pub rows : view_rows b % 2 ≡ 0
  pub width : 4 * (view_x b + view_cols b) ≤ p.cfg.width
  pub height : 4 * (view_y b + view_rows b) ≤ p.cfg.height
  pub few_cols : view_cols b < 2 ^ 32
  pub few_rows : view_rows b < 2 ^ 32

-- What the analysis finds.

-- whether block (u, v) of a view lies in the view and is not skipped
abbrev pub is_filtered : Deblocked → ℕ → ℕ → Bool
is_filtered d u v =
    nat_lt (2 * u + 1) d.cols && (nat_lt (2 * v + 1) d.rows && not (all_skipped d.blocks d.step u v))

-- the direction of block (u, v) of a view if the block is filtered, else 0
unfoldable pub block_direction : Deblocked → ℕ → ℕ → ℕ
block_direction d u v = if is_filtered d u v then direction (luma_block d (d.x + u) (d.y + v)) else 0

-- the variance of block (u, v) of a view if the block is filtered, else 0
unfoldable pub block_variance : Deblocked → ℕ → ℕ → ℕ
block_variance d u v = if is_filtered d u v then direction_variance (luma_block d (d.x + u) (d.y + v)) else 0

-- a table has the directions of the columns before i of a part, and of the first j blocks of column i
pub record HasDirectionColumns (d : Deblocked) (left top i j : ℕ) (t : CdefDirections) : Type 0 where
  pub shape : AreDirections t
  pub before_dir : (a b : ℕ) → a < i → b < 8 → table_direction t a b ≡ block_direction d (left + a) (top + b)
  pub before_var : (a b : ℕ) → a < i → b < 8 → table_variance t a b ≡ pos (block_variance d (left + a) (top + b))
  pub dir : (b : ℕ) → b < j → table_direction t i b ≡ block_direction d (left + i) (top + b)
  pub var : (b : ℕ) → b < j → table_variance t i b ≡ pos (block_variance d (left + i) (top + b))

-- the directions and variances of the part that starts at block (left, top) of the view
pub record HasDirections (d : Deblocked) (left top : ℕ) (t : CdefDirections) : Type 0 where
  pub shape : AreDirections t
  pub dir : (a b : ℕ) → a < 8 → b < 8 → table_direction t a b ≡ block_direction d (left + a) (top + b)
  pub var : (a b : ℕ) → a < 8 → b < 8 → table_variance t a b ≡ pos (block_variance d (left + a) (top + b))

-- a table of zeros
abbrev pub no_directions : CdefDirections
no_directions = record { dir = replicate 8 (replicate 8 0); var = replicate 8 (replicate 8 (pos 0)) }

-- a list has the directions of the first n superblocks, row by row with w to a row
pub record HasRange (d : Deblocked) (w n : ℕ) (ts : List CdefDirections) : Type 0 where
  pub long : length ts ≡ n
  pub each : (x y : ℕ) → x < w → y * w + x < n → HasDirections d (8 * x) (8 * y) (slice_index_or ts (y * w + x) no_directions)
