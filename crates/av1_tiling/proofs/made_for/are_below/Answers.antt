use Rattle.std.proofs.Common.{refl, sym, ◌∙◌}
use Rattle.std.proofs.lemmas.Bool.{false≢true}
use Rattle.std.proofs.lemmas.List.Elements.{All-map}
use Rattle.av1_plane.specs.Numbers.{InDepth}
use Rattle.av1_tiling.proofs.Decided.{one_more, one_fails, all_done, of_numbers}
use Rattle.av1_tiling.proofs.made_for.are_below.Goals as goal

pub returns-then-not-is_below : goal.returns-then-not-is_below
returns-then-not-is_below g c =
    let number = g.T.Pixel.number in
    let xs = c.args.samples.now in
    let below = InDepth c.args.bound in
    let fails : ¬ below (number c.sample-item.result) = λ p. false≢true (sym c.if-not-is_below.true ∙ c.is_below.ensures.1 p) in
    (λ e. absurd (false≢true e), λ all. absurd (one_fails (λ x. below (number x)) xs c.loop-sample.sample-index c.sample-item.result c.loop-sample-test.true c.sample-item.is fails (of_numbers number below xs all)))

pub loop-sample-preserved : goal.loop-sample-preserved
loop-sample-preserved g c =
    one_more (λ x. InDepth c.args.bound (g.T.Pixel.number x)) c.args.samples.now c.loop-sample.sample-index c.sample-item.result c.loop-sample-test.true c.sample-item.is c.loop-sample.invariant (c.is_below.ensures.0 c.if-not-is_below.false)

pub returns : goal.returns
returns g c =
    let number = g.T.Pixel.number in
    let xs = c.args.samples.now in
    let below = InDepth c.args.bound in
    (λ _. All-map below number xs (all_done (λ x. below (number x)) xs c.loop-sample.sample-index c.loop-sample-test.false c.loop-sample.invariant), λ _. refl)
