use Rattle.std.proofs.Common.{◌≡◌, ◌/◌, min}
use Rattle.av1_plane.specs.Place.{origin_place}
use Rattle.av1_plane.specs.Planes.{plane_numbers}
use Rattle.av1_tiling.specs.Restoration.{units_of, unit_by_stripe}
use Rattle.av1_lrf.specs.Rows.{scene_in}
use Rattle.av1_lrf.specs.Runs.{HasArea}
use Rattle.av1_lrf.specs.Restore.{restored_by}
use Rattle.av1_lrf.specs.Units.{edge}
use Rattle.av1_lrf.proofs.plane.restore_stripe.Given as goal

-- The stripe is restored in the first u units.
abbrev pub invariant-loop-u : goal.invariant-loop-u
invariant-loop-u g l = record {
  cfg : l.out.cfg ≡ l.initial.out.cfg;
  value : HasArea (origin_place l.initial.out.cfg) l.initial.out.cfg.stride 0 (edge l.cols l.size l.crop_w l.u) l.start (min l.stop l.crop_h) (λ x y. restored_by (unit_by_stripe (units_of l.units) l.k (x / l.units.cfg.unit_size)).filter l.cdef l.bd (scene_in g.T.Pixel.number l.crop_w l.crop_h l.start l.stop l.cdeffed l.deblocked) x y) (plane_numbers g.T.Pixel.number l.initial.out) (plane_numbers g.T.Pixel.number l.out);
}
