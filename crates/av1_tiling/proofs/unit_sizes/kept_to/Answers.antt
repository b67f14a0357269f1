use Rattle.std.proofs.Common.{◌≡◌, ℕ, ◌*◌, ◌^◌, ◌%◌, ◌≤◌, min, arith, ap}
use Rattle.std.proofs.lemmas.Nat.{mul-le}
use Rattle.std.proofs.Math.Pow.{pow_mono}
use Rattle.std.specs.Int.{w64, trailing_zeros}
use Rattle.av1_tiling.proofs.UnitSizeFacts.{kept_same}
use Rattle.av1_tiling.proofs.unit_sizes.kept_to.Goals as goal

pub returns-clause-value : goal.returns-clause-value
returns-clause-value c =
    let few : c.min-zeros.result ≤ 3 = omega (arith, c.min-zeros.ensures) in
    let power : 2 ^ c.min-zeros.result ≤ 2 ^ 3 = pow_mono few in
    let most : c.args.side * 2 ^ c.min-zeros.result ≤ 128 * 2 ^ 3 = mul-le c.args.side (2 ^ c.min-zeros.result) 128 (2 ^ 3) c.requires.side power in
    let fits : c.args.side * 2 ^ c.min-zeros.result % 18446744073709551616 ≡ c.args.side * 2 ^ c.min-zeros.result = omega arith in
    let zeros : c.min-zeros.result ≡ min (trailing_zeros w64 c.args.count) 3 = omega (arith, c.min-zeros.ensures) in
    let same : c.args.side * 2 ^ c.min-zeros.result ≡ c.args.side * 2 ^ min (trailing_zeros w64 c.args.count) 3 = ap (λ (k : ℕ). c.args.side * 2 ^ k) zeros in
    let kept = kept_same c.args.unit c.args.side (trailing_zeros w64 c.args.count) c.requires.unit c.requires.least_side in
    omega (arith, c.min.ensures, kept)
