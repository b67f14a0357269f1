use Rattle.std.proofs.Common.{◌≡◌, ◌+◌, ◌^◌, ◌≤◌, FitsSigned, ap, sym, subst, arith}
use mir.Syntax.{w64}
use Rattle.std.specs.Prelude.{unsigned_abs}
use Rattle.std.proofs.lemmas.Int.{to_z-of_z}
use Rattle.av1_tiling.specs.Frames.{Parameters}
use Rattle.av1_lrf.specs.Wiener.{IsDepth}
use Rattle.av1_lrf.proofs.DepthFacts.{is_depth, depth_limit}
use Rattle.av1_lrf.proofs.AreaFacts.{area_is, area_same}
use Rattle.av1_lrf.proofs.StopFacts.{wiener_stop}
use Rattle.av1_lrf.proofs.wiener.wiener_stripe_filter.Goals as goal

pub wiener_stripe-requires-clause-depth : goal.wiener_stripe-requires-clause-depth
wiener_stripe-requires-clause-depth g c =
    subst (λ (p : Parameters). IsDepth p.sequence.bit_depth) (sym c.fi.view_is) (is_depth g.T.Pixel.limit c.args.fi.now.sequence.bit_depth c.requires.depth)

pub wiener_stripe-requires-clause-limit : goal.wiener_stripe-requires-clause-limit
wiener_stripe-requires-clause-limit g c =
    subst (λ (p : Parameters). 2 ^ p.sequence.bit_depth ≤ g.T.Pixel.limit) (sym c.fi.view_is) (depth_limit g.T.Pixel.limit c.args.fi.now.sequence.bit_depth c.requires.depth)

pub returns-clause-value : goal.returns-clause-value
returns-clause-value g c =
    let fits : FitsSigned w64 c.args.stripe_y = c.ranges.stripe_y in
    let top = simp to_z-of_z at c.unsigned_abs-top.ensures.value in
    let depth : c.fi.inside.sequence.bit_depth ≡ c.args.fi.now.sequence.bit_depth = ap (λ (p : Parameters). p.sequence.bit_depth) c.fi.view_is in
    let made = rw (top, depth) at c.wiener_stripe.ensures.value in
    area_same _ _ _ _ _ _ _ _ _ _
    (λ x y l m n o. wiener_stop g.T.Pixel.number c.args.fi.now.sequence.bit_depth c.args.coeffs c.args.crop_w c.args.crop_h (unsigned_abs c.args.stripe_y) (unsigned_abs c.args.stripe_y + c.min-rows.result) (unsigned_abs c.args.stripe_y + c.args.stripe_h) c.args.cdeffed.now c.args.deblocked.now x y c.requires.enhanced.some_height (omega (arith, c.min-rows.ensures)))
    (area_is _ _ _ _ _ _ _ _ _ _ _ _ _ (omega arith) (omega (arith, c.min-columns.ensures)) (omega arith) (omega (arith, c.min-rows.ensures)) made)
