use Rattle.std.proofs.Common.{◌≡◌}
use Rattle.av1_plane.specs.Place.{origin_place}
use Rattle.av1_plane.specs.Planes.{plane_numbers}
use Rattle.av1_lrf.specs.Rows.{picture_of}
use Rattle.av1_lrf.specs.Runs.{HasArea}
use Rattle.av1_tiling.specs.Restoration.{units_of}
use Rattle.av1_lrf.specs.Restore.{restored}
use Rattle.av1_lrf.specs.Units.{row_edge}
use Rattle.av1_lrf.proofs.restore.restore_plane.Given as goal

-- The first k stripes of the plane are restored.
abbrev pub invariant-loop-k : goal.invariant-loop-k
invariant-loop-k g l = record {
  cfg : l.out.cfg ≡ l.initial.out.cfg;
  value : HasArea (origin_place l.initial.out.cfg) l.initial.out.cfg.stride 0 l.crop_w 0 (row_edge l.height l.offset l.crop_h l.k) (restored (record { units = units_of l.units; cdef = l.cdef; bit_depth = l.bd; ydec = l.ydec }) (picture_of g.T.Pixel.number l.crop_w l.crop_h l.deblocked) (picture_of g.T.Pixel.number l.crop_w l.crop_h l.cdeffed)) (plane_numbers g.T.Pixel.number l.initial.out) (plane_numbers g.T.Pixel.number l.out);
}
