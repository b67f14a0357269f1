-- CDEF of a whole frame: planes to planes.
use Rattle.std.specs.Prelude.{ℕ, suc, ℤ, ◌≡◌, ◌<◌, ◌+◌, ◌-◌, ◌/◌, ◌%◌, Bool, ◌&&◌, nat_le, nat_lt, List, [], ◌∷◌, map, if◌then◌else◌}
use Rattle.av1_plane.specs.Place.{origin_place}
use Rattle.av1_plane.specs.Region.{numbers_under, first_place, row_step}
use Rattle.av1_plane.specs.declared.three.Three.{Three}
use Rattle.av1_plane.specs.declared.plane.PlaneConfig.{PlaneConfig}
use Rattle.av1_plane.specs.declared.plane.Plane.{Plane}
use Rattle.av1_plane.specs.declared.frame.Frame.{Frame}
use Rattle.av1_plane.specs.declared.region_mut.PlaneRegionMut.{PlaneRegionMut}
use Rattle.av1_plane.specs.declared.tile_mut.TileMut.{TileMut}
use Rattle.av1_block.specs.declared.block.Block.{Block}
use Rattle.av1_block.specs.Tables.{TileBlocks, view_step, view_cols, view_rows}
use Rattle.av1_tiling.specs.Views.{PlaneView}
use Rattle.av1_tiling.specs.Frames.{Parameters}
use Rattle.av1_cdef.specs.Picture.{CdefPicture}
use Rattle.av1_cdef.specs.Frame.{Deblocked, Channel, cdef}
use Rattle.av1_cdef.specs.Analysis.{header_of}

-- the samples inside a plane, its margin left out
abbrev pub view_picture : PlaneView → CdefPicture
view_picture p = record {
  samples = p.samples;
  origin = origin_place p.cfg;
  step = p.cfg.stride;
  width = p.cfg.width;
  height = p.cfg.height;
}

-- a frame with these parameters and its whole table of blocks
abbrev pub whole_frame : Parameters → List Block → CdefPicture → Deblocked
whole_frame params blocks luma = record {
  header = header_of params;
  luma = luma;
  blocks = blocks;
  step = params.w_in_b;
  x = 0;
  y = 0;
  cols = params.w_in_b;
  rows = params.h_in_b;
}

-- place k of the stored samples lies inside the plane
abbrev pub in_picture : PlaneConfig → ℕ → Bool
in_picture cfg k =
    (nat_le cfg.xorigin (k % cfg.stride) && nat_lt (k % cfg.stride) (cfg.xorigin + cfg.width))
    && (nat_le cfg.yorigin (k / cfg.stride) && nat_lt (k / cfg.stride) (cfg.yorigin + cfg.height))

-- stored samples from place k on, with `value x y` at column x of row y inside the plane
unfoldable pub with_picture : PlaneConfig → (ℕ → ℕ → ℤ) → ℕ → List ℤ → List ℤ
with_picture cfg value k [] = []
with_picture cfg value k (s ∷ ss) =
    (if in_picture cfg k then value (k % cfg.stride - cfg.xorigin) (k / cfg.stride - cfg.yorigin) else s)
    ∷ with_picture cfg value (suc k) ss

-- plane number pli of a frame, the samples inside it filtered and its margin as it was
unfoldable pub cdef_plane : Deblocked → ℕ → PlaneView → PlaneView
cdef_plane d pli p =
    let c : Channel = record { pli = pli; xdec = p.cfg.xdec; ydec = p.cfg.ydec; picture = view_picture p } in
    record { cfg = p.cfg; samples = with_picture p.cfg (cdef d c) 0 p.samples }

-- CDEF of a frame with these parameters and blocks: the three planes filtered
abbrev pub cdef_frame : Parameters → List Block → Three PlaneView → Three PlaneView
cdef_frame params blocks f =
    let d = whole_frame params blocks (view_picture f.y) in
    record { y = cdef_plane d 0 f.y; u = cdef_plane d 1 f.u; v = cdef_plane d 2 f.v }

-- How a whole frame is handed in.

-- a region from the plane's origin on that holds the samples of p
pub record LiesOn {X : Type 0} (number : X → ℤ) (p : Plane X) (r : PlaneRegionMut X) : Type 0 where
  pub start : 0 < p.cfg.width → first_place r ≡ origin_place p.cfg
  pub step : row_step r ≡ p.cfg.stride
  pub samples : numbers_under number r ≡ map number p.samples.items

-- the view covers the table, and the output is a copy of the input
pub record IsWholeFrame {X : Type 0} (number : X → ℤ) (params : Parameters) (f : Frame X) (b : TileBlocks) (t : TileMut X) : Type 0 where
  pub cols : view_cols b ≡ params.w_in_b
  pub rows : view_rows b ≡ params.h_in_b
  pub table : view_step b ≡ params.w_in_b
  pub y : LiesOn number f.planes.y t.planes.y
  pub u : LiesOn number f.planes.u t.planes.u
  pub v : LiesOn number f.planes.v t.planes.v

-- the planes under a tile have these samples
pub record HasPlanes {X : Type 0} (number : X → ℤ) (f : Three PlaneView) (t : TileMut X) : Type 0 where
  pub y : numbers_under number t.planes.y ≡ f.y.samples
  pub u : numbers_under number t.planes.u ≡ f.u.samples
  pub v : numbers_under number t.planes.v ≡ f.v.samples
