use Rattle.std.proofs.Common.{◌≡◌, ◌+◌, ◌-◌, ◌*◌, ◌/◌, ℕ, refl, ap, ◌∙◌, arith}
use Rattle.av1_tiling.specs.Restoration.{units_of, unit_by_stripe}
use Rattle.av1_lrf.specs.Rows.{scene_in}
use Rattle.av1_lrf.specs.Restore.{restored_by}
use Rattle.av1_lrf.proofs.AreaFacts.{area_is, area_same}
use Rattle.av1_lrf.proofs.restore.restore_nth.Goals as goal

pub returns-clause-value : goal.returns-clause-value
returns-clause-value g c =
    let more : (c.args.k + 1) * c.args.height ≡ c.args.k * c.args.height + c.args.height = grind arith in
    let start : c.max.result - c.args.offset ≡ c.args.k * c.args.height - c.args.offset = omega (arith, c.max.ensures) in
    let stop : c.args.k * c.args.height + c.args.height - c.args.offset ≡ (c.args.k + 1) * c.args.height - c.args.offset = omega arith in
    area_same _ _ _ _ _ _ _ _ _ _
    (λ x y lx hx ly hy.
    ap (λ (n : ℕ). restored_by (unit_by_stripe (units_of c.args.units.now) c.args.k (x / c.args.units.now.cfg.unit_size)).filter c.args.cdef c.args.bd (scene_in g.T.Pixel.number c.args.crop_w c.args.crop_h n (c.args.k * c.args.height + c.args.height - c.args.offset) c.args.cdeffed.now c.args.deblocked.now) x y) start
    ∙ ap (λ (n : ℕ). restored_by (unit_by_stripe (units_of c.args.units.now) c.args.k (x / c.args.units.now.cfg.unit_size)).filter c.args.cdef c.args.bd (scene_in g.T.Pixel.number c.args.crop_w c.args.crop_h (c.args.k * c.args.height - c.args.offset) n c.args.cdeffed.now c.args.deblocked.now) x y) stop)
    (area_is _ _ _ _ _ _ _ _ _ _ _ _ _ refl refl (omega (arith, c.requires.k, c.requires.enhanced.some_height)) (omega arith) c.restore_stripe.ensures.value)
