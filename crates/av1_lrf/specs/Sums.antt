-- Sums over the numbers below n, rounded shifts and limits.
use Rattle.std.specs.Prelude.{ℕ, zero, suc, ℤ, pos, ◌+◌, ◌/◌, ◌^◌, ◌+ℤ◌}
use Rattle.std.specs.Int.{int_min, int_max, int_shr}

-- f 0 + .. + f (n - 1)
abbrev pub sum_of_first : ℕ → (ℕ → ℤ) → ℤ
sum_of_first zero f = pos 0
sum_of_first (suc n) f = sum_of_first n f +ℤ f n

-- f 0 + .. + f (n - 1), of natural numbers
abbrev pub total_of_first : ℕ → (ℕ → ℕ) → ℕ
total_of_first zero f = 0
total_of_first (suc n) f = total_of_first n f + f n

-- v / 2 ^ n, rounded
abbrev pub round2 : ℤ → ℕ → ℤ
round2 v n = int_shr (v +ℤ pos (2 ^ n / 2)) n

-- v / 2 ^ n, rounded, of a natural number
abbrev pub rounded_shift : ℕ → ℕ → ℕ
rounded_shift v n = (v + 2 ^ n / 2) / 2 ^ n

-- v, but at least `low` and at most `high`
abbrev pub limited : ℤ → ℤ → ℤ → ℤ
limited low high v = int_max (int_min v high) low
