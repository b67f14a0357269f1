use Rattle.std.proofs.Common.{◌≡◌, ◌∙◌, arith}
use Rattle.av1_rec.proofs.GeneratedRows.{all_bytes}
use Rattle.av1_rec.proofs.generated.coded.coded_bytes.Goals as goal

pub returns : goal.returns
returns c =
    let past = c.loop-i-test.false in
    let within = c.loop-i.auto.i-end in
    let here : c.loop-i.i ≡ c.byte_count-count.result = omega (arith, past, within) in
    all_bytes c.args.n c.loop-i.i c.loop-i.made.items c.loop-i.invariant (here ∙ c.byte_count-count.ensures.value)
