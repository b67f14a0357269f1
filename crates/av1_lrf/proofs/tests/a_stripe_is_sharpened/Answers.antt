use Rattle.av1_lrf.proofs.SmallFrames.{small_picture}
use Rattle.av1_lrf.proofs.tests.a_stripe_is_sharpened.Goals as goal

pub wiener_stripe_filter-requires-clause-enhanced :
    goal.wiener_stripe_filter-requires-clause-enhanced
wiener_stripe_filter-requires-clause-enhanced g c =
    let made = c.in_ok-fi.ensures in
    small_picture c.in_ok-input.input c.in_ok-fi.fi made.frame made.sides.0 made.sides.1 c.in_ok-input.ensures

pub wiener_stripe_filter-requires-clause-deblocked :
    goal.wiener_stripe_filter-requires-clause-deblocked
wiener_stripe_filter-requires-clause-deblocked g c =
    let made = c.in_ok-fi.ensures in
    small_picture c.in_ok-input.input c.in_ok-fi.fi made.frame made.sides.0 made.sides.1 c.in_ok-input.ensures
