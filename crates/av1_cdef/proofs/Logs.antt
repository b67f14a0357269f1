-- Logarithms to base 2, rounded down.
use Rattle.std.proofs.Common.{◌≡◌, ℕ, zero, suc, ◌*◌, ◌^◌, ◌<◌, ◌≤◌, min, refl, arith, inl, inr, lit<, ◌∙◌, true, false}
use Rattle.std.specs.Prelude.{nat_le}
use Rattle.std.proofs.Math.Nat.{pow-le-pow_right}
use Rattle.std.proofs.lemmas.Bool.{cases_lt}
use Rattle.std.proofs.lemmas.Bool.Decides.{nat_tests}
use Rattle.av1_cdef.specs.Strength.{floor_log2_up_to}

-- the number 2 is positive
two : 0 < 2
two = lit< tt

-- the power below a number gives its logarithm
pub log2_is : (most n k : ℕ) → 2 ^ k ≤ n → n < 2 * 2 ^ k → floor_log2_up_to most n ≡ min k most
unfolding floor_log2_up_to
log2_is zero n k l h = omega arith
log2_is (suc m) n k l h = elim (cases_lt k (suc m)) [
  | inl less ↦
      let more : 2 ^ suc k ≤ 2 ^ suc m = pow-le-pow_right {n = 2} two less in
      let twice : 2 ^ suc k ≡ 2 * 2 ^ k = grind arith in
      let below : n < 2 ^ suc m = omega arith in
      let rest : floor_log2_up_to m n ≡ min k m = log2_is m n k l h in
      let done : min k m ≡ min k (suc m) = omega arith in
      grind (arith, nat_tests)
  | inr most ↦
      let more : 2 ^ suc m ≤ 2 ^ k = pow-le-pow_right {n = 2} two (omega arith) in
      let above : 2 ^ suc m ≤ n = omega arith in
      let done : suc m ≡ min k (suc m) = omega arith in
      grind (arith, nat_tests)
]

-- the logarithm of 0
pub log2_of_zero : (most : ℕ) → floor_log2_up_to most 0 ≡ 0
unfolding floor_log2_up_to
log2_of_zero zero = refl
log2_of_zero (suc m) =
    let positive : 1 ≤ 2 ^ suc m = pow-le-pow_right {n = 2} two {i = 0} (omega arith) in
    let rest : floor_log2_up_to m 0 ≡ 0 = log2_of_zero m in
    grind (arith, nat_tests)

-- the logarithm of a byte is at most 7
pub log2_most : (n k : ℕ) → 2 ^ k ≤ n → n < 256 → k ≤ 7
log2_most n k h l = elim (cases_lt 7 k) [
  | inl more ↦
      let above : 2 ^ 8 ≤ 2 ^ k = pow-le-pow_right {n = 2} two more in
      absurd (omega arith)
  | inr most ↦ most
]

-- the logarithm of a strength is the k whose power of 2 it reaches and doesn't double
pub log2_strength : (n k : ℕ) → n < 256 → 2 ^ k ≤ n → n < 2 * 2 ^ k → floor_log2_up_to 7 n ≡ k
log2_strength n k l h m = let most : k ≤ 7 = log2_most n k h l in log2_is 7 n k h m ∙ omega arith

-- a number below twice the greatest power is below twice the power of its logarithm
log2_up_to_below : (most n : ℕ) → n < 2 * 2 ^ most → (floor_log2_up_to most n ≤ most) × (n < 2 * 2 ^ floor_log2_up_to most n)
unfolding floor_log2_up_to
log2_up_to_below zero n l = (omega arith, l)
log2_up_to_below (suc m) n l = elim (cases_lt n (2 ^ suc m)) [
  | inl less ↦
      let twice : 2 ^ suc m ≡ 2 * 2 ^ m = grind arith in
      let rest = log2_up_to_below m n (omega arith) in
      let t : nat_le (2 ^ suc m) n ≡ false = grind (arith, nat_tests) in
      rw t (let a = rest.0 in omega arith, rest.1)
  | inr more ↦
      let t : nat_le (2 ^ suc m) n ≡ true = grind (arith, nat_tests) in
      rw t (omega arith, l)
]

-- a strength is below twice the power of its logarithm
pub log2_below : (n : ℕ) → n < 256 → (floor_log2_up_to 7 n ≤ 7) × (n < 2 * 2 ^ floor_log2_up_to 7 n)
log2_below n l = log2_up_to_below 7 n l

pub ruleset logs = (log2_is, log2_of_zero)

pub ruleset strengths = (log2_strength, log2_most, log2_of_zero)
