-- The lowest level of least error, by running sums.
use Rattle.std.proofs.Common.{◌≡◌, true, false, ℕ, ℤ, pos, ◌+◌, ◌<◌, ◌≤◌, List, get_or, refl, arith, add-one, inl, inr, subst}
use Rattle.std.specs.Prelude.{◌+ℤ◌, ◌≤ℤ◌, ◌<ℤ◌}
use lib.Signed.{lt_z}
use Rattle.std.proofs.lemmas.Bool.{cases_eq}
use Rattle.std.proofs.lemmas.Int.{ints, to_z-of_z}
use Rattle.av1_deblock.specs.Line.{sample, sum_below}
use Rattle.av1_deblock.specs.Errors.{running, IsTally, IsLowestLeast}
use Rattle.av1_deblock.specs.Choice.{HasSums, total, IsLowestSum}

-- a running sum is the sum before an entry and the entry
pub running_is : (es : List ℤ) (level : ℕ) → running es level ≡ sum_below level (sample es) +ℤ get_or es level (pos 0)
unfolding sum_below
running_is es level = refl

-- a running sum up to a level is the sum of one entry more
pub running_next : (es : List ℤ) (level : ℕ) → running es level ≡ sum_below (level + 1) (sample es)
running_next es level = rw add-one refl

-- the sum of no entries is 0
pub sums_none : (es : List ℤ) → pos 0 ≡ sum_below 0 (sample es)
unfolding sum_below
sums_none es = refl

-- a number is at most itself
le_same : (x : ℤ) → x ≤ℤ x
le_same x = omega (arith, ints)

-- a number that is less than a number at most z is at most z
lt_le : (x y z : ℤ) → x <ℤ y → y ≤ℤ z → x ≤ℤ z
lt_le x y z h k = omega (arith, ints)

-- a number that is less than a number at most z is less than z
lt_lt : (x y z : ℤ) → x <ℤ y → y ≤ℤ z → x <ℤ z
lt_lt x y z h k = omega (arith, ints)

-- a test for less that holds of two sums says that the first is less
pub below_of : (x y : ℤ) → lt_z x y ≡ true → x <ℤ y
below_of x y h = grind (arith, ints)

-- a test for less that fails of two sums says that the second is no greater
pub not_below : (x y : ℤ) → lt_z x y ≡ false → y ≤ℤ x
not_below x y h = grind (arith, ints)

-- the level 0 is the lowest of one level
pub lowest_first : (a b : List ℤ) → IsLowestSum a b 1 0
lowest_first a b = record {
  inside = omega arith;
  least = λ m l. let e : 0 ≡ m = omega arith in subst (λ n. total a b 0 ≤ℤ total a b n) e (le_same (total a b 0));
  lowest = λ m l. absurd (omega arith);
}

-- a level with a lesser sum is the lowest of one more
pub lowest_taken : (a b : List ℤ) (n best : ℕ) → IsLowestSum a b n best → total a b n <ℤ total a b best → IsLowestSum a b (n + 1) n
lowest_taken a b n best h k = record {
  inside = omega arith;
  least = λ m l. elim (cases_eq n m) [
    | inl e ↦ subst (λ i. total a b n ≤ℤ total a b i) e (le_same (total a b n))
    | inr d ↦ lt_le (total a b n) (total a b best) (total a b m) k (h.least m (omega arith))
  ];
  lowest = λ m l. lt_lt (total a b n) (total a b best) (total a b m) k (h.least m l);
}

-- a level with a sum that is not less changes nothing
pub lowest_kept : (a b : List ℤ) (n best : ℕ) → IsLowestSum a b n best → total a b best ≤ℤ total a b n → IsLowestSum a b (n + 1) best
lowest_kept a b n best h k = record {
  inside = let i = h.inside in omega arith;
  least = λ m l. elim (cases_eq n m) [
    | inl e ↦ subst (λ i. total a b best ≤ℤ total a b i) e k
    | inr d ↦ h.least m (omega arith)
  ];
  lowest = h.lowest;
}

-- the sums of a tally lie in range
pub tally_sums : (f : ℕ → ℕ) (es : List ℤ) → IsTally f es → HasSums es
tally_sums f es h = record {
  long = h.long;
  low = λ level l. rw (h.sums level l) (at_least (f level));
  high = λ level l. rw (h.sums level l) (at_most (f level) 1152921504606846976 (h.small level l));
}
  where
    at_least : (n : ℕ) → pos 0 ≤ℤ pos n
    at_least n = omega (arith, ints)

    at_most : (n m : ℕ) → n ≤ m → pos n ≤ℤ pos m
    at_most n m l = omega (arith, ints)

-- an order of sums of two positive numbers, as numbers
le_of : (a b c d : ℕ) → (pos a +ℤ pos b) ≤ℤ (pos c +ℤ pos d) → a + b ≤ c + d
le_of a b c d h = omega (arith, ints)

-- a sum of two numbers that is less as an integer is less as a number
lt_of : (a b c d : ℕ) → (pos a +ℤ pos b) <ℤ (pos c +ℤ pos d) → a + b < c + d
lt_of a b c d h = omega (arith, ints)

-- the lowest level of least sum is that of least error
pub lowest_by_sums : (f g : ℕ → ℕ) (a b : List ℤ) (best : ℕ) → IsTally f a → IsTally g b → IsLowestSum a b 64 best → IsLowestLeast (λ level. f level + g level) 64 best
lowest_by_sums f g a b best h k s = record {
  inside = s.inside;
  least = λ m l. le_of (f best) (g best) (f m) (g m) (rw (h.sums best s.inside, k.sums best s.inside, h.sums m l, k.sums m l) at (s.least m l));
  lowest = λ m l. let i = s.inside in let j : m < 64 = omega arith in lt_of (f best) (g best) (f m) (g m) (rw (h.sums best i, k.sums best i, h.sums m j, k.sums m j) at (s.lowest m l));
}

-- a second error that is 0 everywhere adds nothing
pub lowest_alone : (f : ℕ → ℕ) (best : ℕ) → IsLowestLeast (λ level. f level + 0) 64 best → IsLowestLeast f 64 best
lowest_alone f best h = record {
  inside = h.inside;
  least = λ m l. omega (arith, h.least m l);
  lowest = λ m l. omega (arith, h.lowest m l);
}

pub ruleset signed = (to_z-of_z)
