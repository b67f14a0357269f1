-- What a worker has seen after a turn.
use Rattle.std.proofs.Common.{◌≡◌, ◌⊎◌, ℕ, ◌+◌, ◌<◌, Bool, true, false, List, [], ◌∷◌, ◌++◌, not, sym, subst, inl, inr, ⊎_elim, arith}
use mathlib.Core.Logic.{dite}
use native.Mathlib.Decide.{ℕ_discrete}
use Rattle.av1_frame.specs.Claims.{times, Has, with_tile}
use Rattle.av1_frame.proofs.Counting.{times-append, times_one}

-- a number of a list stands in every longer list that begins with it
pub has_more : (xs ys : List ℕ) (n : ℕ) → Has xs n → Has (xs ++ ys) n
has_more xs ys n h = omega (arith, times-append n xs ys)

-- the last number of a list stands in the list
has_last : (xs : List ℕ) (t n : ℕ) → n ≡ t → Has (xs ++ t ∷ []) n
has_last xs t n e = subst (λ (m : ℕ). Has (xs ++ t ∷ []) m) (sym e) (omega (arith, times-append t xs (t ∷ []), times_one t))

-- c and m are the claimed and the missed numbers before the turn on t, c' and m' those after it
pub turned : (c m c' m' : List ℕ) (t : ℕ) (b : Bool) → c' ≡ with_tile b t c → m' ≡ with_tile (not b) t m
    → ((n : ℕ) → n < t → Has c n ⊎ Has m n) → (n : ℕ) → n < t + 1 → Has c' n ⊎ Has m' n
turned c m c' m' t true is is' seen n less = rw (is, is') (dite (ℕ_discrete n t) (λ e. inl (has_last c t n e)) (λ ne. ⊎_elim (λ a. inl (has_more c (t ∷ []) n a)) (λ b. inr b) (seen n (omega arith))))
turned c m c' m' t false is is' seen n less = rw (is, is') (dite (ℕ_discrete n t) (λ e. inr (has_last m t n e)) (λ ne. ⊎_elim (λ a. inl a) (λ b. inr (has_more m (t ∷ []) n b)) (seen n (omega arith))))

-- a seat that took in another has seen what the first had seen
pub joins_seen : (c m d e c' m' : List ℕ) (n : ℕ) → c' ≡ c ++ d → m' ≡ m ++ e → Has c n ⊎ Has m n → Has c' n ⊎ Has m' n
joins_seen c m d e c' m' n is is' h = rw (is, is') (⊎_elim (λ a. inl (has_more c d n a)) (λ b. inr (has_more m e n b)) h)
