-- The least number that passes a test, and the least shift by which a size reaches a target.
use Rattle.std.proofs.Common.{◌≡◌, ℕ, zero, suc, ◌^◌, ◌<◌, ◌≤◌, ◌⊎◌, inl, inr, Bool, true, false, cond, leb, refl, sym, subst, arith}
use Rattle.std.proofs.lemmas.Bool.{cases_lt, cases_order, both_ways, leb-true, leb-false, le-leb, lt-leb}
use Rattle.av1_tiling.specs.Least.{least, tile_log2, shifted, IsTileLog2}

-- k is the least number below n that passes, or n
pub record LeastOf (p : ℕ → Bool) (n k : ℕ) : Type 0 where
  pub within : k ≤ n
  pub passes : k < n → p k ≡ true
  pub fails : (j : ℕ) → j < k → p j ≡ false

-- No number before n + 1 passes a test that none before n and not k passes.
at_or_below : (p : ℕ → Bool) (n k : ℕ) → p k ≡ false → LeastOf p n k → (k < n) ⊎ (n ≤ k) → (j : ℕ) → j < suc n → (j < k) ⊎ (k ≤ j) → p j ≡ false
at_or_below p n k e h (inl l) j _ _ = absurd (both_ways (p k) e (h.passes l))
at_or_below p n k e h (inr g) j m (inl l) = h.fails j l
at_or_below p n k e h (inr g) j m (inr l) = let within = h.within in let same : k ≡ j = omega arith in subst (λ (x : ℕ). p x ≡ false) same e

-- The least number that passes stays the least where one number more is tested.
least_step : (p : ℕ → Bool) (n k : ℕ) (b : Bool) → p k ≡ b → LeastOf p n k → LeastOf p (suc n) (cond b k (suc n))
least_step p n k true e h = let within = h.within in record { within = omega arith; passes = λ _. e; fails = h.fails }
least_step p n k false e h = record {
  within = omega arith;
  passes = λ l. absurd (omega arith);
  fails = λ j l. at_or_below p n k e h (cases_lt k n) j l (cases_lt j k);
}

-- The function `least` finds the least number that passes a test.
pub least_is : (p : ℕ → Bool) (n : ℕ) → LeastOf p n (least p n)
unfolding least
least_is p zero = record { within = omega arith; passes = λ l. absurd (omega arith); fails = λ j l. absurd (omega arith) }
least_is p (suc n) = least_step p n (least p n) (p (least p n)) refl (least_is p n)

-- Of two numbers that are both the least to pass, none is below the other.
not_below : (p : ℕ → Bool) (n k m : ℕ) → LeastOf p n k → LeastOf p n m → k < m → ⊥
not_below p n k m a b l = let within = b.within in both_ways (p k) (b.fails k l) (a.passes (omega arith))

-- At most one number is the least that passes a test.
pub least_unique : (p : ℕ → Bool) (n k m : ℕ) → LeastOf p n k → LeastOf p n m → (k ≡ m) ⊎ ((k < m) ⊎ (m < k)) → k ≡ m
least_unique p n k m a b (inl e) = e
least_unique p n k m a b (inr (inl l)) = absurd (not_below p n k m a b l)
least_unique p n k m a b (inr (inr l)) = absurd (not_below p n m k b a l)

-- the least number that passes is the one that `least` finds
pub least-from : (p : ℕ → Bool) (n k : ℕ) → LeastOf p n k → least p n ≡ k
least-from p n k h = least_unique p n (least p n) k (least_is p n) h (cases_order (least p n) k)

-- The least shift by which a size reaches a target is the least that passes this test.
least_shift : (size target k : ℕ) → IsTileLog2 size target k → LeastOf (λ j. leb target (shifted size j)) 64 k
least_shift size target k h = record {
  within = let below = h.below in omega arith;
  passes = λ _. le-leb target (shifted size k) h.reaches;
  fails = λ j l. lt-leb target (shifted size j) (h.least j l);
}

-- the least shift is `tile_log2`
pub tile_log2-from : (size target k : ℕ) → IsTileLog2 size target k → k ≡ tile_log2 size target
unfolding tile_log2
tile_log2-from size target k h = sym (least-from (λ j. leb target (shifted size j)) 64 k (least_shift size target k h))

-- where some shift reaches the target, `tile_log2` is the least such shift
pub tile_log2_is : (size target : ℕ) → tile_log2 size target < 64 → IsTileLog2 size target (tile_log2 size target)
unfolding tile_log2
tile_log2_is size target l = let h = least_is (λ j. leb target (shifted size j)) 64 in record {
  below = l;
  reaches = leb-true target (shifted size (tile_log2 size target)) (h.passes l);
  least = λ j m. leb-false target (shifted size j) (h.fails j m);
}

-- The logarithm is at most each shift by which the size reaches the target.
below_reached : (size target k : ℕ) → target ≤ shifted size k → LeastOf (λ j. leb target (shifted size j)) 64 (tile_log2 size target) → (k < tile_log2 size target) ⊎ (tile_log2 size target ≤ k) → tile_log2 size target ≤ k
below_reached size target k reach h (inl l) = absurd (both_ways (leb target (shifted size k)) (h.fails k l) (le-leb target (shifted size k) reach))
below_reached size target k reach h (inr g) = g

-- where shift k reaches the target, the least shift is at most k
pub tile_log2-le : (size target k : ℕ) → target ≤ shifted size k → tile_log2 size target ≤ k
unfolding tile_log2
tile_log2-le size target k reach = below_reached size target k reach (least_is (λ j. leb target (shifted size j)) 64) (cases_lt k (tile_log2 size target))

-- where neither k nor a lesser shift reaches the target, the least shift is above k
pub tile_log2_above : (size target k m : ℕ) → IsTileLog2 size target m → (k < m) ⊎ (m ≤ k) → ((j : ℕ) → j ≤ k → shifted size j < target) → k < m
tile_log2_above size target k m h (inl l) fails = l
tile_log2_above size target k m h (inr g) fails = let reaches = h.reaches in let fail = fails m g in absurd (omega arith)

-- a shift by 40 reaches every target that is coded
pub not_past_40 : (size target : ℕ) → 0 < size → size < 2 ^ 24 → target ≤ 2 ^ 40 → ((k : ℕ) → k < 64 → shifted size k < target) → ⊥
not_past_40 size target some small low fails = let fail = fails 40 (omega arith) in absurd (omega arith)
