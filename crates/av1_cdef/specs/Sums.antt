-- Sums and lists over the numbers below a bound.
use Rattle.std.specs.Prelude.{ℕ, zero, suc, ◌+◌, nat_lt, if◌then◌else◌, List, [], ◌∷◌, ◌++◌}

-- f 0 + .. + f (n - 1)
unfoldable pub total_below : ℕ → (ℕ → ℕ) → ℕ
total_below zero f = 0
total_below (suc n) f = total_below n f + f n

-- the first number up to n at which f is greatest
unfoldable pub first_greatest : ℕ → (ℕ → ℕ) → ℕ
first_greatest zero f = 0
first_greatest (suc n) f = if nat_lt (f (first_greatest n f)) (f (suc n)) then suc n else first_greatest n f

-- f 0, .. , f (n - 1)
unfoldable pub tabulated : ℕ → (ℕ → ℕ) → List ℕ
tabulated zero f = []
tabulated (suc n) f = tabulated n f ++ f n ∷ []
