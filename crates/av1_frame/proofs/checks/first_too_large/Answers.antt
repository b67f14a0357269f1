use Rattle.std.proofs.Common.{map, sym, ◌∙◌}
use Rattle.av1_frame.specs.Coding.{has_too_many_bytes}
use Rattle.av1_frame.specs.Results.{result_of}
use Rattle.av1_frame.proofs.Refusals.{not_searched, found, searched_on, not_found}
use Rattle.av1_frame.proofs.checks.first_too_large.Goals as goal

pub loop-n-init : goal.loop-n-init
loop-n-init g c = not_searched has_too_many_bytes (map result_of c.args.tiles.now)

pub returns-then-has_too_many_bytes : goal.returns-then-has_too_many_bytes
returns-then-has_too_many_bytes g c =
    found result_of has_too_many_bytes c.args.tiles.now c.loop-n.n c.loop-n.invariant c.index-tiles-n.result c.loop-n-test.true c.index-tiles-n.is (sym c.has_too_many_bytes.ensures ∙ c.if-has_too_many_bytes.true)

pub loop-n-preserved : goal.loop-n-preserved
loop-n-preserved g c =
    searched_on result_of has_too_many_bytes c.args.tiles.now c.loop-n.n c.loop-n.invariant c.index-tiles-n.result c.loop-n-test.true c.index-tiles-n.is (sym c.has_too_many_bytes.ensures ∙ c.if-has_too_many_bytes.false)

pub returns : goal.returns
returns g c = not_found result_of has_too_many_bytes c.args.tiles.now c.loop-n.n c.loop-n.invariant c.loop-n-test.false
