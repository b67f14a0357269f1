-- The blocks of a superblock, in a tile at any place of the frame.
use Rattle.std.specs.Prelude.{ℕ, ℤ, ◌≡◌, ◌<◌, ◌≤◌, ◌+◌, ◌-◌, ◌*◌, ◌/◌, ◌^◌, ◌⊎◌, Bool, ◌&&◌, not, min, if◌then◌else◌, slice_index}
use Rattle.av1_plane.specs.declared.plane.Plane.{Plane}
use Rattle.av1_plane.specs.declared.frame.Frame.{Frame}
use Rattle.av1_plane.specs.declared.region_mut.PlaneRegionMut.{PlaneRegionMut}
use Rattle.av1_plane.specs.declared.tile_mut.TileMut.{TileMut}
use Rattle.av1_plane.specs.Region.{numbers_under, first_place, row_step, area, IsStored, IsSamePart}
use Rattle.av1_tiling.specs.Frames.{Parameters}
use Rattle.av1_cdef.specs.declared.part.Plan.{Plan}
use Rattle.av1_cdef.specs.Strength.{primary_of, secondary_of}
use Rattle.av1_cdef.specs.Done.{HasFilteredBlocks}
use Rattle.av1_cdef.specs.Frame.{Header, Deblocked, Channel, cdef_block_width, cdef_block_height, coeff_shift, block_cdef}
use Rattle.av1_cdef.specs.Analysis.{plane_picture, header_of, IsDeep, CanAnalyze}
use Rattle.av1_block.specs.Tables.{TileBlocks}

-- What the calls ask.

-- the strengths and the damping of a header are such as CDEF can have
pub record IsCdefHeader (f : Header) : Type 0 where
  pub low : 8 ≤ f.bit_depth
  pub high : f.bit_depth ≤ 12
  pub damping : 3 ≤ f.damping
  pub most : f.damping ≤ 6
  pub luma : (k : ℕ) → k < 8 → slice_index f.luma_strengths k ≤ 63
  pub chroma : (k : ℕ) → k < 8 → slice_index f.chroma_strengths k ≤ 63

-- parameters whose strengths occur, a sample type that fits the depth, and a luma plane with a view of its blocks
pub record CanReadFrame {X : Type 0} (number : X → ℤ) (limit : ℕ) (params : Parameters) (p : Plane X) (b : TileBlocks) : Type 0 where
  pub header : IsCdefHeader (header_of params)
  pub fits : 256 * 2 ^ (params.sequence.bit_depth - 8) ≤ limit
  pub luma : CanAnalyze number params.sequence.bit_depth p b

-- a plane of cols by rows blocks that can be read, and a region with room for a view's blocks
pub record CanFilter {X : Type 0} (number : X → ℤ) (scale cols rows view_cols view_rows : ℕ) (p : Plane X) (r : PlaneRegionMut X) : Type 0 where
  pub narrow : p.cfg.stride < 2 ^ 32
  pub some : 0 < p.cfg.height
  pub deep : IsDeep (256 * scale) (plane_picture number p)
  pub sampling : ((p.cfg.xdec ≡ 0) × (p.cfg.ydec ≡ 0)) ⊎ ((p.cfg.xdec ≡ 1) × (p.cfg.ydec ≡ 0)) ⊎ ((p.cfg.xdec ≡ 1) × (p.cfg.ydec ≡ 1))
  pub width : p.cfg.width ≡ 8 / 2 ^ p.cfg.xdec * cols
  pub height : p.cfg.height ≡ 8 / 2 ^ p.cfg.ydec * rows
  pub stored : IsStored r
  pub to_width : 8 / 2 ^ p.cfg.xdec * view_cols ≤ (area r).width
  pub to_height : 8 / 2 ^ p.cfg.ydec * view_rows ≤ (area r).height

-- The strengths of an index.

-- the strength byte of an index, for luma or for chroma
abbrev pub strength_byte : Header → Bool → ℕ → ℕ
strength_byte f luma index = if luma then slice_index f.luma_strengths index else slice_index f.chroma_strengths index

-- what the strength byte of an index says of luma or of chroma, both decimations being equal or not
abbrev pub plan_with : Header → Bool → Bool → ℕ → Plan
plan_with f luma same index = record {
  luma = luma;
  stretched = not luma && not same;
  primary = primary_of (strength_byte f luma index);
  secondary = secondary_of (strength_byte f luma index);
  damping = if luma then f.damping + coeff_shift f else f.damping + coeff_shift f - 1;
  scale = 2 ^ coeff_shift f;
}

-- The blocks.

-- plane number pli of a frame
abbrev pub channel_of : {X : Type 0} → (X → ℤ) → ℕ → Plane X → Channel
channel_of number pli p = record { pli = pli; xdec = p.cfg.xdec; ydec = p.cfg.ydec; picture = plane_picture number p }

-- blocks of a view, from column `left` to `right` and from row `top` to `bottom`, and the index of their strengths
pub record ViewPart : Type 0 where
  pub frame : Deblocked
  pub index : ℕ
  pub left : ℕ
  pub right : ℕ
  pub top : ℕ
  pub bottom : ℕ

-- the blocks of superblock (x, y) that lie in the view
abbrev pub superblock_part : Deblocked → ℕ → ℕ → ℕ → ViewPart
superblock_part d index x y = record {
  frame = d;
  index = index;
  left = 8 * x;
  right = min (8 * x + 8) (d.cols / 2);
  top = 8 * y;
  bottom = min (8 * y + 8) (d.rows / 2);
}

-- the sample at row i, column j of block (u, v) of a view
unfoldable pub view_cdef : Deblocked → Channel → (index u v i j : ℕ) → ℤ
view_cdef d c index u v i j =
    block_cdef d c index (d.x + u) (d.y + v) (cdef_block_width c * (d.x + u) + j) (cdef_block_height c * (d.y + v) + i)

-- b is a with the blocks of a part of a view filtered; a plane without samples stays
pub record IsFilteredPlane {X : Type 0} (number : X → ℤ) (p : ViewPart) (c : Channel) (a b : PlaneRegionMut X) : Type 0 where
  pub part : IsSamePart a b
  pub blocks : 0 < c.picture.width
      → HasFilteredBlocks (first_place a) (row_step a) (cdef_block_width c) (cdef_block_height c) p.left p.right p.top p.left p.bottom
      (view_cdef p.frame c p.index) (numbers_under number a) (numbers_under number b)
  pub none : c.picture.width ≡ 0 → numbers_under number b ≡ numbers_under number a

-- b is a with the blocks of a part of a view filtered in each plane
pub record IsFiltered {X : Type 0} (number : X → ℤ) (p : ViewPart) (f : Frame X) (a b : TileMut X) : Type 0 where
  pub y : IsFilteredPlane number p (channel_of number 0 f.planes.y) a.planes.y b.planes.y
  pub u : IsFilteredPlane number p (channel_of number 1 f.planes.u) a.planes.u b.planes.u
  pub v : IsFilteredPlane number p (channel_of number 2 f.planes.v) a.planes.v b.planes.v
