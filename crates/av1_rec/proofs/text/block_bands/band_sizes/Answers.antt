use Rattle.std.proofs.Common.{◌≡◌, ℕ, ◌+◌, ◌-◌, ◌<◌, ◌^◌, subst, arith}
use Rattle.std.proofs.lemmas.Nat.{leading_length}
use Rattle.std.specs.Int.Count.{count_leading_zeros}
use Rattle.av1_rec.proofs.text.block_bands.band_sizes.Goals as goal

pub returns-clause-enough : goal.returns-clause-enough
returns-clause-enough c =
    let a = c.from.result + 1 in
    let l = leading_length 64 a (omega arith) in
    let m : l.0 ≡ 64 - count_leading_zeros 64 a = let e = l.1 in omega arith in
    let within : c.args.longest + 1 < 2 ^ l.0 = let h = l.2 in omega arith in
    subst (λ (n : ℕ). c.args.longest + 1 < 2 ^ n) m within

pub returns-clause-few : goal.returns-clause-few
returns-clause-few c = omega arith
