use Rattle.std.proofs.Common.{◌≡◌, ◌+◌, ◌*◌, ◌%◌, ℕ, length, map, sym, ap, subst, ◌∙◌}
use Rattle.std.specs.Prelude.{unsigned_abs, ◌==◌}
use Rattle.std.proofs.lemmas.List.{length-map}
use Rattle.av1_plane.specs.declared.region.Rect.{Rect}
use Rattle.av1_plane.specs.Region.{samples_under, area}
use Rattle.av1_lrf.specs.Rows.{sample}
use Rattle.av1_tiling.specs.Frames.{Parameters}
use Rattle.av1_lrf.specs.Guided.{guided}
use Rattle.av1_lrf.specs.Guides.{IsGuidePass, IsMixOf}
use Rattle.av1_lrf.specs.Wiener.{IsDepth}
use Rattle.av1_lrf.proofs.DepthFacts.{is_depth}
use Rattle.av1_lrf.proofs.SgrFacts.{plan_is, stripe_is, whole_run}
use Rattle.av1_lrf.proofs.sgr.sgrproj_stripe_filter.Goals as goal

pub plan_of-plan-requires-clause-depth : goal.plan_of-plan-requires-clause-depth
plan_of-plan-requires-clause-depth g c =
    subst (λ (p : Parameters). IsDepth p.sequence.bit_depth) (sym c.fi.view_is) (is_depth g.U.Pixel.limit c.args.fi.now.sequence.bit_depth c.requires.depth)

pub returns-clause-value : goal.returns-clause-value
returns-clause-value g c = λ f h.
    let bd = c.args.fi.now.sequence.bit_depth in
    let number = g.U.Pixel.number in
    let plan = c.plan_of-plan.result in
    let made_by = c.plan_of-plan.ensures in
    let depth : c.fi.inside.sequence.bit_depth ≡ bd = ap (λ (p : Parameters). p.sequence.bit_depth) c.fi.view_is in
    let two = subst (λ (n : ℕ). IsGuidePass n c.args.set 2 plan.two) depth made_by.two in
    let one = subst (λ (n : ℕ). IsGuidePass n c.args.set 1 plan.one) depth made_by.one in
    let mix = subst (λ (n : ℕ). IsMixOf n c.args.set c.args.xqd plan.mix) depth made_by.mix in
    let ew : (area c.args.out.now).width ≡ c.rect.result.now.width = ap (λ (r : Rect). r.width) (sym c.rect.ensures) in
    let eh : (area c.args.out.now).height ≡ c.rect-2.result.now.height = ap (λ (r : Rect). r.height) (sym c.rect-2.ensures) in
    let xs = c.as_slice.ensures.value in
    let from = c.place-from.ensures in
    let made = c.guided_stripe.ensures.value bd c.args.set c.args.xqd f
    (plan_is bd c.args.set c.args.xqd f c.plan_of-plan.result c.args.stride (area c.args.out.now).width (area c.args.out.now).height c.rect.result.now.width c.rect-2.result.now.height c.args.buffer.now.integral_image.items c.args.buffer.now.sq_integral_image.items c.as_slice-2.result.now c.as_slice-3.result.now
    ew eh (sym c.as_slice-2.ensures.value) (sym c.as_slice-3.ensures.value) (is_depth g.U.Pixel.limit bd c.requires.depth) two one mix h) in
    let long : length c.guided_stripe.new.out ≡ length (samples_under c.args.out.now) =
    sym (length-map c.guided_stripe.new.out number) ∙ made.long ∙ length-map c.store_mut-rows.result.now number ∙ ap length c.store_mut-rows.ensures.all in
    stripe_is _ _ _ _ _ _ _ _ _ _ _ _ _ _ c.first_row-origin.ensures c.between_rows-step.ensures (sym ew) (sym eh) (ap (map number) c.store_mut-rows.ensures.all) (sym (whole_run number c.args.out.now c.guided_stripe.new.out long))
    (λ x y. ap (λ v. guided bd c.args.set c.args.xqd (y % 2 == 1) f (unsigned_abs v) (x + 3) (y + 3)) (ap (λ ys. sample (map number ys) (c.place-from.result + y * c.args.cdeffed.now.plane.now.cfg.stride + x)) xs ∙ ap (λ (k : ℕ). sample (map number c.args.cdeffed.now.plane.now.samples.items) (k + y * c.args.cdeffed.now.plane.now.cfg.stride + x)) from))
    made
