use Rattle.std.proofs.Common.{map, sym, ◌∙◌}
use Rattle.av1_frame.specs.Coding.{has_bad_unit}
use Rattle.av1_frame.specs.Results.{result_of}
use Rattle.av1_frame.proofs.Refusals.{not_searched, found, searched_on, not_found}
use Rattle.av1_frame.proofs.checks.first_bad_unit.Goals as goal

pub loop-n-init : goal.loop-n-init
loop-n-init g c = not_searched has_bad_unit (map result_of c.args.tiles.now)

pub returns-then-has_bad_unit : goal.returns-then-has_bad_unit
returns-then-has_bad_unit g c =
    found result_of has_bad_unit c.args.tiles.now c.loop-n.n c.loop-n.invariant c.index-tiles-n.result c.loop-n-test.true c.index-tiles-n.is (sym c.has_bad_unit.ensures ∙ c.if-has_bad_unit.true)

pub loop-n-preserved : goal.loop-n-preserved
loop-n-preserved g c =
    searched_on result_of has_bad_unit c.args.tiles.now c.loop-n.n c.loop-n.invariant c.index-tiles-n.result c.loop-n-test.true c.index-tiles-n.is (sym c.has_bad_unit.ensures ∙ c.if-has_bad_unit.false)

pub returns : goal.returns
returns g c = not_found result_of has_bad_unit c.args.tiles.now c.loop-n.n c.loop-n.invariant c.loop-n-test.false
