-- What the calls ask of a frame's parts.
use Rattle.std.specs.Prelude.{ℕ, ◌≡◌, ◌<◌, ◌≤◌, ◌*◌, ◌/◌, ◌%◌, ◌^◌}
use Rattle.av1_plane.specs.declared.plane.PlaneConfig.{PlaneConfig}
use Rattle.av1_plane.specs.declared.frame.Frame.{Frame}
use Rattle.av1_plane.specs.declared.region_mut.PlaneRegionMut.{PlaneRegionMut}
use Rattle.av1_plane.specs.declared.tile_mut.TileMut.{TileMut}
use Rattle.av1_plane.specs.Region.{area, IsStored}
use Rattle.av1_block.specs.Tables.{TileBlocks, view_at, view_x, view_y, view_cols, view_rows, view_frame_cols, view_frame_rows}
use Rattle.av1_tiling.specs.Frames.{Parameters}

-- a view of a table made for the frame; it starts on a superblock and has even sides
pub record IsViewFor (p : Parameters) (b : TileBlocks) : Type 0 where
  pub table_cols : view_frame_cols b ≡ p.w_in_b
  pub table_rows : view_frame_rows b ≡ p.h_in_b
  pub left : view_x b % 16 ≡ 0
  pub top : view_y b % 16 ≡ 0
  pub cols : view_cols b % 2 ≡ 0
  pub rows : view_rows b % 2 ≡ 0

-- the blocks of a view have an index of strengths
pub record HasIndices (b : TileBlocks) : Type 0 where
  pub each : (x y : ℕ) → x < view_cols b → y < view_rows b → (view_at b x y).cdef_index ≤ 7

-- a stored region with room for the samples that a view's blocks have in a plane of that layout
pub record HasViewRoom {X : Type 0} (cfg : PlaneConfig) (b : TileBlocks) (r : PlaneRegionMut X) : Type 0 where
  pub stored : IsStored r
  pub width : 4 * view_cols b / 2 ^ cfg.xdec ≤ (area r).width
  pub height : 4 * view_rows b / 2 ^ cfg.ydec ≤ (area r).height

-- a tile with room for a view's blocks in each plane of the frame that is not empty
pub record HoldsView {X : Type 0} (f : Frame X) (b : TileBlocks) (t : TileMut X) : Type 0 where
  pub y : 0 < f.planes.y.cfg.width → HasViewRoom f.planes.y.cfg b t.planes.y
  pub u : 0 < f.planes.u.cfg.width → HasViewRoom f.planes.u.cfg b t.planes.u
  pub v : 0 < f.planes.v.cfg.width → HasViewRoom f.planes.v.cfg b t.planes.v
