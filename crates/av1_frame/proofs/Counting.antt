-- Counting in lists of numbers, and over seats.
use Rattle.std.proofs.Common.{◌≡◌, ◌≢◌, ℕ, zero, suc, ◌+◌, ◌≤◌, Bool, List, [], ◌∷◌, ◌++◌, set, refl, sym, ap, arith, if◌then◌else◌, eq-eqb, ne_eqb}
use mathlib.Core.Option.{some, some-injective, some-ne-none}
use lib.ListN.{get_elem?}
use Rattle.av1_frame.specs.declared.doing.Doing.{Doing}
use Rattle.av1_frame.specs.Claims.{times, claims, claims_of}

-- A number stands in two lists together as often as in both.
pub times-append : (n : ℕ) (xs ys : List ℕ) → times n (xs ++ ys) ≡ times n xs + times n ys
times-append n [] ys = omega arith
times-append n (x ∷ xs) ys = omega (arith, times-append n xs ys)

-- a number stands once in the list of itself
pub times_one : (n : ℕ) → times n (n ∷ []) ≡ 1
times_one n = ap (λ (b : Bool). (if b then 1 else 0) + 0) (eq-eqb n n refl)

-- A number doesn't stand in a list of one other number.
pub times_other : (n m : ℕ) → m ≢ n → times n (m ∷ []) ≡ 0
times_other n m ne = ap (λ (b : Bool). (if b then 1 else 0) + 0) (ne_eqb m n ne)

module _ {X : Type 0} where
  -- Replacing one seat replaces its claims in the claims of all seats.
  pub claims_of-set : (vs : List (Doing X)) (j : ℕ) (v w : Doing X) (n : ℕ) → get_elem? vs j ≡ some v → claims_of n (set vs j w) + times n (claims v) ≡ claims_of n vs + times n (claims w)
  claims_of-set [] j v w n e = absurd (some-ne-none v (sym e))
  claims_of-set (u ∷ us) zero v w n e = let same : times n (claims u) ≡ times n (claims v) = ap (λ (d : Doing X). times n (claims d)) (some-injective u v e) in omega arith
  claims_of-set (u ∷ us) (suc j) v w n e = let rest = claims_of-set us j v w n e in omega arith

  -- One more seat adds its claims to the claims of all seats.
  pub claims_of-snoc : (vs : List (Doing X)) (w : Doing X) (n : ℕ) → claims_of n (vs ++ w ∷ []) ≡ claims_of n vs + times n (claims w)
  claims_of-snoc [] w n = omega arith
  claims_of-snoc (u ∷ us) w n = omega (arith, claims_of-snoc us w n)

  -- A number stands in the claims of all seats at least as often as in the claims of one.
  pub one_claims : (vs : List (Doing X)) (j : ℕ) (v : Doing X) (n : ℕ) → get_elem? vs j ≡ some v → times n (claims v) ≤ claims_of n vs
  one_claims [] j v n e = absurd (some-ne-none v (sym e))
  one_claims (u ∷ us) zero v n e = let same : times n (claims u) ≡ times n (claims v) = ap (λ (d : Doing X). times n (claims d)) (some-injective u v e) in omega arith
  one_claims (u ∷ us) (suc j) v n e = let rest = one_claims us j v n e in omega arith

  -- A number stands in the claims of all seats at least as often as in the claims of two of them.
  pub two_claim : (vs : List (Doing X)) (i j : ℕ) (v w : Doing X) (n : ℕ) → i ≢ j → get_elem? vs i ≡ some v → get_elem? vs j ≡ some w → times n (claims v) + times n (claims w) ≤ claims_of n vs
  two_claim [] i j v w n ne e f = absurd (some-ne-none v (sym e))
  two_claim (u ∷ us) zero zero v w n ne e f = absurd (ne refl)
  two_claim (u ∷ us) zero (suc j) v w n ne e f = let same : times n (claims u) ≡ times n (claims v) = ap (λ (d : Doing X). times n (claims d)) (some-injective u v e) in let rest = one_claims us j w n f in omega arith
  two_claim (u ∷ us) (suc i) zero v w n ne e f = let same : times n (claims u) ≡ times n (claims w) = ap (λ (d : Doing X). times n (claims d)) (some-injective u w f) in let rest = one_claims us i v n e in omega arith
  two_claim (u ∷ us) (suc i) (suc j) v w n ne e f = let rest = two_claim us i j v w n (λ h. ne (ap suc h)) e f in omega arith
