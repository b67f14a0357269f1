use Rattle.std.proofs.Common.{◌≡◌, ◌+◌, ◌-◌, ℕ, arith, refl, ap, sym, subst}
use Rattle.av1_plane.specs.Place.{origin_place}
use Rattle.av1_plane.specs.Planes.{plane_numbers}
use Rattle.std.specs.Prelude.{min}
use Rattle.av1_block.specs.declared.restoration_unit.RestorationFilter.{RestorationFilter}
use Rattle.av1_lrf.specs.Rows.{scene_in}
use Rattle.av1_lrf.specs.Runs.{HasArea}
use Rattle.av1_lrf.specs.Wiener.{wiener}
use Rattle.av1_lrf.specs.Restore.{restored_by}
use Rattle.av1_lrf.proofs.AreaFacts.{area_is, area_same}
use Rattle.av1_lrf.proofs.plane.restore_part.Goals as goal

pub returns-in-Wiener-clause-value : goal.returns-in-Wiener-clause-value
returns-in-Wiener-clause-value g c =
    let last : c.args.start + (c.args.stop - c.args.start) ≡ c.args.stop = omega arith in
    let s = scene_in g.T.Pixel.number c.args.crop_w c.args.crop_h c.args.start c.args.stop c.args.cdeffed.now c.args.deblocked.now in
    subst (λ (f : RestorationFilter). HasArea (origin_place c.args.out.now.cfg) c.args.out.now.cfg.stride c.args.left c.args.right c.args.start (min c.args.stop c.args.crop_h) (restored_by f c.args.cdef c.args.bd s) (plane_numbers g.T.Pixel.number c.args.out.now) (plane_numbers g.T.Pixel.number c.wiener_stripe.new.out)) (sym c.in-Wiener.is)
    (area_same _ _ _ _ _ _ _ _ _ _
    (λ x y l m n o. ap (λ (t : ℕ). wiener c.args.bd c.in-Wiener.coeffs (scene_in g.T.Pixel.number c.args.crop_w c.args.crop_h c.args.start t c.args.cdeffed.now c.args.deblocked.now) x y) last)
    (area_is _ _ _ _ _ _ _ _ _ _ _ _ _ refl (omega arith) refl (omega arith) c.wiener_stripe.ensures.value))
