use Rattle.std.proofs.Common.{◌≡◌, ◌<◌, ◌*◌, ◌+◌, get_or, arith, ap, ◌∙◌, sym, List, ℕ}
use Rattle.std.specs.Prelude.{length}
use Rattle.av1_frame.proofs.Framings.{number_of-empty, number_of-cons, three_bytes}
use Rattle.av1_frame.specs.Framing.{number_of}
use Rattle.av1_frame.proofs.reading.+number_of.Goals as goal

pub overflow_mul-result : goal.overflow_mul-result
overflow_mul-result t c =
    let parts = c.in-Some.ensures.cases in
    let small = three_bytes c.number_of.result (length c.in-Some.high.now) c.number_of.ensures.bound (omega arith) in
    omega arith

pub overflow_add-result : goal.overflow_add-result
overflow_add-result t c =
    let parts = c.in-Some.ensures.cases in
    let small = three_bytes c.number_of.result (length c.in-Some.high.now) c.number_of.ensures.bound (omega arith) in
    let first : get_or c.args.bytes.now 0 0 ≡ c.in-Some.low.now = ap (λ (xs : List ℕ). get_or xs 0 0) parts.0 in
    let byte = c.type_inv.bytes 0 in
    let low = c.from.ensures in
    omega arith

pub returns-in-None-clause-value : goal.returns-in-None-clause-value
returns-in-None-clause-value t c = number_of-empty c.args.bytes.now c.in-None.ensures.cases

pub returns-in-Some-clause-value : goal.returns-in-Some-clause-value
returns-in-Some-clause-value t c =
    let parts = c.in-Some.ensures.cases in
    (λ i. c.from.ensures i + 256 * c.number_of.ensures.value i) ∙ (sym (number_of-cons c.in-Some.low.now c.in-Some.high.now) ∙ ap number_of (sym parts.0))
