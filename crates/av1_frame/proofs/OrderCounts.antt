-- Counting in lists, and numbers below a bound.
use Rattle.std.proofs.Common.{◌≡◌, ◌≢◌, ℕ, zero, suc, ◌+◌, ◌<◌, ◌≤◌, Bool, List, [], ◌∷◌, ◌++◌, length, set, replicate, Option, Some, None, slice_get, refl, sym, ap, ◌∙◌, subst, arith, if◌then◌else◌, eq-eqb, ne_eqb}
use mathlib.Core.Logic.{dite}
use native.Mathlib.Decide.{ℕ_discrete}
use Rattle.av1_frame.specs.Claims.{times}
use Rattle.av1_frame.specs.AnyOrder.{numbers, held_numbers}
use Rattle.av1_frame.proofs.Counting.{times-append, times_one, times_other}

-- a worker takes up a number, or puts one down
pub held_claim : (hs : List (Option ℕ)) (w n m : ℕ) → slice_get hs w ≡ Some None → times m (held_numbers (set hs w (Some n))) ≡ times m (held_numbers hs) + times m (n ∷ [])
held_claim [] w n m e = absurd (let f : None ≡ Some None = e in cc)
held_claim (None ∷ hs) zero n m e = omega arith
held_claim (Some k ∷ hs) zero n m e = absurd (let f : Some (Some k) ≡ Some None = e in cc)
held_claim (None ∷ hs) (suc w) n m e = held_claim hs w n m e
held_claim (Some k ∷ hs) (suc w) n m e = omega (arith, held_claim hs w n m e)

-- A worker that delivers its number no longer holds it.
pub held_deliver : (hs : List (Option ℕ)) (w n m : ℕ) → slice_get hs w ≡ Some (Some n) → times m (held_numbers (set hs w None)) + times m (n ∷ []) ≡ times m (held_numbers hs)
held_deliver [] w n m e = absurd (let f : None ≡ Some (Some n) = e in cc)
held_deliver (None ∷ hs) zero n m e = absurd (let f : Some None ≡ Some (Some n) = e in cc)
held_deliver (Some k ∷ hs) zero n m e = let same : k ≡ n = grind arith in let t : times m (k ∷ []) ≡ times m (n ∷ []) = ap (λ (k : ℕ). times m (k ∷ [])) same in omega arith
held_deliver (None ∷ hs) (suc w) n m e = held_deliver hs w n m e
held_deliver (Some k ∷ hs) (suc w) n m e = omega (arith, held_deliver hs w n m e)

-- Fresh workers hold no number.
pub none_held : (n m : ℕ) → times m (held_numbers (replicate n None)) ≡ 0
none_held zero m = refl
none_held (suc n) m = none_held n m

module _ {R : Type 0} where
  -- The numbers of two lists of results together are the numbers of both.
  pub numbers-append : (ps qs : List (ℕ × R)) → numbers (ps ++ qs) ≡ numbers ps ++ numbers qs
  numbers-append [] qs = refl
  numbers-append (p ∷ ps) qs = ap (λ (l : List ℕ). p.0 ∷ l) (numbers-append ps qs)

  -- A list of results has as many numbers as results.
  pub length-numbers : (ps : List (ℕ × R)) → length (numbers ps) ≡ length ps
  length-numbers [] = refl
  length-numbers (p ∷ ps) = ap suc (length-numbers ps)

  -- What holds of all results and of one more holds of all results with this one.
  pub entry_snoc : (P : ℕ × R → Type 0) (ps : List (ℕ × R)) (q : ℕ × R) → ((k : ℕ) (p : ℕ × R) → slice_get ps k ≡ Some p → P p) → P q → (k : ℕ) (p : ℕ × R) → slice_get (ps ++ q ∷ []) k ≡ Some p → P p
  entry_snoc P [] q old new zero p e = subst P (let f : Some q ≡ Some p = e in cc) new
  entry_snoc P [] q old new (suc k) p e = absurd (let f : None ≡ Some p = e in cc)
  entry_snoc P (x ∷ ps) q old new zero p e = old zero p e
  entry_snoc P (x ∷ ps) q old new (suc k) p e = entry_snoc P ps q (λ k p h. old (suc k) p h) new k p e

-- how many numbers below n stand in a list, counted number by number
below : ℕ → List ℕ → ℕ
below zero xs = 0
below (suc n) xs = below n xs + times n xs

-- An empty list has no number below n.
below_nil : (n : ℕ) → below n [] ≡ 0
unfolding below
below_nil zero = refl
below_nil (suc n) = omega (arith, below_nil n)

-- A number of n or more doesn't count among the numbers below n.
below_past : (n x : ℕ) (xs : List ℕ) → n ≤ x → below n (x ∷ xs) ≡ below n xs
unfolding below
below_past zero x xs h = refl
below_past (suc n) x xs h = let r = below_past n x xs (omega arith) in let t : times n (x ∷ []) ≡ 0 = times_other n x (λ e. omega arith) in omega arith

-- A number below n counts among the numbers below n.
below_here : (n x : ℕ) (xs : List ℕ) → x < n → below n (x ∷ xs) ≡ suc (below n xs)
unfolding below
below_here zero x xs h = absurd (omega arith)
below_here (suc n) x xs h = dite (ℕ_discrete x n)
    (λ e. let r = below_past n x xs (omega arith) in let t : times n (x ∷ []) ≡ 1 = subst (λ (y : ℕ). times n (y ∷ []) ≡ 1) (sym e) (times_one n) in omega arith)
    (λ ne. let r = below_here n x xs (omega arith) in let t : times n (x ∷ []) ≡ 0 = times_other n x ne in omega arith)

-- All numbers of a list count as below n where none of n or more stands in it.
below_all : (n : ℕ) (xs : List ℕ) → ((m : ℕ) → n ≤ m → times m xs ≡ 0) → below n xs ≡ length xs
unfolding below
below_all n [] h = below_nil n
below_all n (x ∷ xs) h =
    let inside : x < n = dite (native.Mathlib.Decide.dec_le n x) (λ le. absurd (let t = h x le in let u : times x (x ∷ []) ≡ 1 = times_one x in omega arith)) (λ nle. omega arith) in
    below_here n x xs inside ∙ ap suc (below_all n xs (λ m le. let t = h m le in omega arith))

-- a list without repeats has at most n numbers below n
below_most : (n : ℕ) (xs : List ℕ) → ((m : ℕ) → times m xs < 2) → below n xs ≤ n
unfolding below
below_most zero xs h = omega arith
below_most (suc n) xs h = let a = below_most n xs h in let b = h n in omega arith

-- Where n different numbers stand below n, each number below n stands in the list once.
each : (n : ℕ) (xs : List ℕ) → ((m : ℕ) → times m xs < 2) → below n xs ≡ n → (m : ℕ) → m < n → times m xs ≡ 1
unfolding below
each zero xs once all m h = absurd (omega arith)
each (suc n) xs once all m h =
    let a = below_most n xs once in let b = once n in let c = all in
    dite (ℕ_discrete m n) (λ e. subst (λ (k : ℕ). times k xs ≡ 1) (sym e) (omega arith)) (λ ne. each n xs once (omega arith) m (omega arith))

-- n different numbers below n are all the numbers below n
pub full : (n : ℕ) (xs : List ℕ) → ((m : ℕ) → times m xs < 2) → ((m : ℕ) → n ≤ m → times m xs ≡ 0) → length xs ≡ n → (m : ℕ) → m < n → times m xs ≡ 1
full n xs once fits long m h = each n xs once (below_all n xs fits ∙ long) m h
