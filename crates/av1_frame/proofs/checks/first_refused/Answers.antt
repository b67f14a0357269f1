use Rattle.std.proofs.Common.{map, sym, ◌∙◌}
use Rattle.std.specs.Prelude.{is_none}
use Rattle.av1_frame.specs.Results.{result_of}
use Rattle.av1_frame.proofs.Refusals.{not_searched, found, searched_on, not_found, refused_is}
use Rattle.av1_frame.proofs.checks.first_refused.Goals as goal

pub loop-n-init : goal.loop-n-init
loop-n-init g c = not_searched is_none (map result_of c.args.tiles.now)

pub returns-then-is_none : goal.returns-then-is_none
returns-then-is_none g c =
    found result_of is_none c.args.tiles.now c.loop-n.n c.loop-n.invariant c.index-tiles-n.result c.loop-n-test.true c.index-tiles-n.is (sym (refused_is c.index-tiles-n.result c.is_none.result c.is_none.ensures) ∙ c.if-is_none.true)

pub loop-n-preserved : goal.loop-n-preserved
loop-n-preserved g c =
    searched_on result_of is_none c.args.tiles.now c.loop-n.n c.loop-n.invariant c.index-tiles-n.result c.loop-n-test.true c.index-tiles-n.is (sym (refused_is c.index-tiles-n.result c.is_none.result c.is_none.ensures) ∙ c.if-is_none.false)

pub returns : goal.returns
returns g c = not_found result_of is_none c.args.tiles.now c.loop-n.n c.loop-n.invariant c.loop-n-test.false
