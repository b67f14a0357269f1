-- All blocks of a tile, superblock by superblock.
use Rattle.std.specs.Prelude.{ℕ, ℤ, pos, ◌≡◌, ◌≢◌, ◌<◌, ◌+◌, ◌*◌, ◌/◌, ◌⊎◌, List, length}
use Rattle.std.specs.List.{slice_index_or}
use Rattle.av1_plane.specs.declared.frame.Frame.{Frame}
use Rattle.av1_plane.specs.declared.region_mut.PlaneRegionMut.{PlaneRegionMut}
use Rattle.av1_plane.specs.declared.tile_mut.TileMut.{TileMut}
use Rattle.av1_plane.specs.Region.{spot, numbers_under, first_place, row_step, IsSamePart}
use Rattle.av1_cdef.specs.Frame.{Deblocked, Channel, cdef_block_width, cdef_block_height, index_of, cdef}
use Rattle.av1_cdef.specs.Superblock.{view_cdef, channel_of}

-- The filtered tile, sample by sample.

-- the sample at column x of row y of a view's region of a plane
unfoldable pub sample_cdef : Deblocked → Channel → ℕ → ℕ → ℤ
sample_cdef d c x y = cdef d c (cdef_block_width c * d.x + x) (cdef_block_height c * d.y + y)

-- ys is xs with `value x y` at column x of row y, for x below w and y below h
pub record HasTile (start step w h : ℕ) (value : ℕ → ℕ → ℤ) (xs ys : List ℤ) : Type 0 where
  pub long : length ys ≡ length xs
  pub on : (x y : ℕ) → x < w → y < h → slice_index_or ys (spot start step x y) (pos 0) ≡ value x y
  pub off : (k : ℕ) → ((x y : ℕ) → x < w → y < h → k ≢ spot start step x y) → slice_index_or ys k (pos 0) ≡ slice_index_or xs k (pos 0)

-- b is a with all blocks of a view filtered and all else as it was; a plane without samples stays
pub record IsFilteredTilePlane {X : Type 0} (number : X → ℤ) (d : Deblocked) (c : Channel) (a b : PlaneRegionMut X) : Type 0 where
  pub part : IsSamePart a b
  pub samples : 0 < c.picture.width
      → HasTile (first_place a) (row_step a) (cdef_block_width c * (d.cols / 2)) (cdef_block_height c * (d.rows / 2))
      (sample_cdef d c) (numbers_under number a) (numbers_under number b)
  pub none : c.picture.width ≡ 0 → numbers_under number b ≡ numbers_under number a

-- b is a with all blocks of a view filtered in each plane
pub record IsFilteredTile {X : Type 0} (number : X → ℤ) (d : Deblocked) (f : Frame X) (a b : TileMut X) : Type 0 where
  pub y : IsFilteredTilePlane number d (channel_of number 0 f.planes.y) a.planes.y b.planes.y
  pub u : IsFilteredTilePlane number d (channel_of number 1 f.planes.u) a.planes.u b.planes.u
  pub v : IsFilteredTilePlane number d (channel_of number 2 f.planes.v) a.planes.v b.planes.v

-- The filtered tile, superblock by superblock.

-- the sample at row i, column j of block (u, v) of a view, with the index that its 64x64 part has
unfoldable pub tile_cdef : Deblocked → Channel → (u v i j : ℕ) → ℤ
tile_cdef d c u v i j = view_cdef d c (index_of d (d.x + u) (d.y + v)) u v i j

-- block (u, v) of cols by rows blocks lies in a superblock before superblock (sx, sy)
pub record IsReached (cols rows sx sy u v : ℕ) : Type 0 where
  pub column : u < cols
  pub row : v < rows
  pub order : (v < 8 * sy) ⊎ ((v < 8 * sy + 8) × (u < 8 * sx))

-- ys is xs with `value u v i j` at row i, column j of each block before superblock (sx, sy)
pub record HasReached (start step w h cols rows sx sy : ℕ) (value : ℕ → ℕ → ℕ → ℕ → ℤ) (xs ys : List ℤ) : Type 0 where
  pub long : length ys ≡ length xs
  pub on : (u v i j : ℕ) → IsReached cols rows sx sy u v → i < h → j < w
      → slice_index_or ys (spot start step (w * u + j) (h * v + i)) (pos 0) ≡ value u v i j
  pub off : (k : ℕ) → ((u v i j : ℕ) → IsReached cols rows sx sy u v → i < h → j < w → k ≢ spot start step (w * u + j) (h * v + i))
      → slice_index_or ys k (pos 0) ≡ slice_index_or xs k (pos 0)

-- b is a with all blocks of a view before superblock (sx, sy) filtered
pub record IsFilteredTo {X : Type 0} (number : X → ℤ) (d : Deblocked) (sx sy : ℕ) (c : Channel) (a b : PlaneRegionMut X) : Type 0 where
  pub part : IsSamePart a b
  pub blocks : 0 < c.picture.width
      → HasReached (first_place a) (row_step a) (cdef_block_width c) (cdef_block_height c) (d.cols / 2) (d.rows / 2) sx sy
      (tile_cdef d c) (numbers_under number a) (numbers_under number b)
  pub none : c.picture.width ≡ 0 → numbers_under number b ≡ numbers_under number a
