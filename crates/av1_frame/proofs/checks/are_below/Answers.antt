use Rattle.std.proofs.Common.{◌≡◌, ◌+◌, map, pos, true, get_or, arith, ap, sym, ◌∙◌, ℕ}
use Rattle.av1_frame.specs.Coding.{in_depth}
use Rattle.av1_frame.proofs.Depths.{one_passes, one_fails}
use Rattle.av1_frame.proofs.checks.are_below.Goals as goal

pub loop-x-preserved : goal.loop-x-preserved
loop-x-preserved g c =
    one_passes (λ (i : ℕ). in_depth c.args.bound (get_or (map g.T.Pixel.number c.args.samples.now) (c.args.first + i) (pos 0))) c.loop-x.x c.loop-x.invariant (sym c.is_below.ensures ∙ c.if-not-is_below.false)

pub returns-then-not-is_below : goal.returns-then-not-is_below
returns-then-not-is_below g c =
    sym (one_fails (λ (i : ℕ). in_depth c.args.bound (get_or (map g.T.Pixel.number c.args.samples.now) (c.args.first + i) (pos 0))) c.args.count c.loop-x.x c.loop-x-test.true (sym c.is_below.ensures ∙ c.if-not-is_below.true))
