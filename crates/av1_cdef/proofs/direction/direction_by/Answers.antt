use Rattle.std.proofs.Common.{◌≡◌, ◌+◌, ◌%◌, arith, ◌∙◌}
use Rattle.av1_cdef.specs.Direction.{cost, direction}
use Rattle.av1_cdef.proofs.Lines.{eight, first_same, margin_is}
use Rattle.av1_cdef.proofs.direction.direction_by.Goals as goal

pub returns-clause-direction : goal.returns-clause-direction
returns-clause-direction c =
    c.first_greatest_of-best.ensures.value
    ∙ first_same 7 _ (cost c.args.block.now) (λ d l. eight (cost c.args.block.now) _ _ _ _ _ _ _ _ c.cost_of.ensures c.cost_of-2.ensures c.cost_of-3.ensures c.cost_of-4.ensures c.cost_of-5.ensures c.cost_of-6.ensures c.cost_of-7.ensures c.cost_of-8.ensures d (omega arith))

pub returns-clause-variance : goal.returns-clause-variance
returns-clause-variance c =
    let at = eight (cost c.args.block.now) _ _ _ _ _ _ _ _ c.cost_of.ensures c.cost_of-2.ensures c.cost_of-3.ensures c.cost_of-4.ensures c.cost_of-5.ensures c.cost_of-6.ensures c.cost_of-7.ensures c.cost_of-8.ensures in
    let best : c.first_greatest_of-best.result ≡ direction c.args.block.now = returns-clause-direction c in
    let a = at c.first_greatest_of-best.result c.first_greatest_of-best.ensures.inside in
    let b = at ((c.first_greatest_of-best.result + 4) % 8) (omega arith) in
    margin_is (cost c.args.block.now) _ _ _ _ _ best a b c.margin_of.ensures.value
