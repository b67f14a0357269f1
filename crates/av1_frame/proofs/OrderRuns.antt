-- The claim machine over any list of events.
use Rattle.std.proofs.Common.{◌≡◌, ℕ, zero, suc, ◌+◌, ◌<◌, ◌≤◌, ◌==◌, ◌&&◌, ltb, Bool, true, false, List, [], ◌∷◌, ◌++◌, length, take, Option, Some, None, slice_get, refl, sym, ap, ◌∙◌, subst, arith, if◌then◌else◌, eq-eqb, ne_eqb, eqb-true}
use Rattle.std.proofs.Math.Seq.{take-length}
use borrow.Author.Tests.{ltb-true}
use mathlib.Core.Logic.{dite}
use native.Mathlib.Decide.{ℕ_discrete}
use Rattle.av1_frame.specs.Claims.{times}
use Rattle.av1_frame.specs.AnyOrder.{Event, claim, deliver, Machine, numbers, results_of, by_number, start, after_claim, after_result, after_delivery, step, after, held_numbers, CoreAnyOrder}
use Rattle.av1_frame.proofs.Counting.{times-append, times_one, times_other}
use Rattle.av1_frame.proofs.OrderCounts.{held_claim, held_deliver, none_held, numbers-append, length-numbers, entry_snoc, full}

module _ {R : Type 0} (results : List R) where
  record Kept (m : Machine R) : Type 0 where
    exact : (n : ℕ) → times n m.taken ≡ times n (numbers m.delivered) + times n (held_numbers m.held)
    once : (n : ℕ) → times n m.taken < 2
    fits : (n : ℕ) → length results ≤ n → times n m.taken ≡ 0
    entries : (k : ℕ) (p : ℕ × R) → slice_get m.delivered k ≡ Some p → slice_get results p.0 ≡ Some p.1

  -- Two tests that hold together hold each.
  tested : (a b : Bool) → (a && b) ≡ true → (a ≡ true) × (b ≡ true)
  tested true b e = (refl, e)
  tested false b e = absurd (let f : false ≡ true = e in cc)

  -- A choice between two machines in order is in order.
  chosen : (b : Bool) (m m' : Machine R) → (b ≡ true → Kept m') → Kept m → Kept (if b then m' else m)
  chosen true m m' new old = new refl
  chosen false m m' new old = old

  -- A claim keeps the machine in order.
  claims_kept : (o : Option (Option ℕ)) (w n : ℕ) (m : Machine R) → slice_get m.held w ≡ o → Kept m → Kept (after_claim results o (length results) w n m)
  claims_kept None w n m e k = k
  claims_kept (Some (Some h)) w n m e k = k
  claims_kept (Some None) w n m e k = chosen (ltb n (length results) && (times n m.taken == 0)) m _ (λ b.
      let t = tested (ltb n (length results)) (times n m.taken == 0) b in
      let inside : n < length results = ltb-true n (length results) t.0 in
      let free : times n m.taken ≡ 0 = eqb-true (times n m.taken) 0 t.1 in
      record {
        exact = λ i. let h = held_claim m.held w n i e in let x = k.exact i in omega (arith, times-append i m.taken (n ∷ []));
        once = λ i. dite (ℕ_discrete i n) (λ e. subst (λ (j : ℕ). times j (m.taken ++ n ∷ []) < 2) (sym e) (omega (arith, times-append n m.taken (n ∷ []), times_one n)))
            (λ ne. let o = k.once i in omega (arith, times-append i m.taken (n ∷ []), times_other i n (λ e. ne (sym e))));
        fits = λ i h. let o = k.fits i h in omega (arith, times-append i m.taken (n ∷ []), times_other i n (λ e. omega arith));
        entries = k.entries;
      }) k

  -- The delivery of a held number keeps the machine in order.
  delivers_kept : (o : Option R) (w n : ℕ) (m : Machine R) → slice_get m.held w ≡ Some (Some n) → slice_get results n ≡ o → Kept m → Kept (after_result results o w n m)
  delivers_kept None w n m e is k = k
  delivers_kept (Some r) w n m e is k = record {
    exact = λ i. let h = held_deliver m.held w n i e in let x = k.exact i in
        let l : times i (numbers (m.delivered ++ (n, r) ∷ [])) ≡ times i (numbers m.delivered) + times i (n ∷ []) = ap (times i) (numbers-append m.delivered ((n, r) ∷ [])) ∙ times-append i (numbers m.delivered) (n ∷ []) in omega arith;
    once = k.once;
    fits = k.fits;
    entries = entry_snoc (λ p. slice_get results p.0 ≡ Some p.1) m.delivered (n, r) k.entries is;
  }

  -- A delivery keeps the machine in order, whether or not a number is held.
  gives_kept : (o : Option (Option ℕ)) (w : ℕ) (m : Machine R) → slice_get m.held w ≡ o → Kept m → Kept (after_delivery results o w m)
  gives_kept None w m e k = k
  gives_kept (Some None) w m e k = k
  gives_kept (Some (Some n)) w m e k = delivers_kept (slice_get results n) w n m e refl k

  -- One event keeps the machine in order.
  step_kept : (e : Event) (m : Machine R) → Kept m → Kept (step results (length results) e m)
  step_kept (claim w n) m k = claims_kept (slice_get m.held w) w n m refl k
  step_kept (deliver w) m k = gives_kept (slice_get m.held w) w m refl k

  -- A list of events keeps the machine in order.
  after_kept : (es : List Event) (m : Machine R) → Kept m → Kept (after results (length results) es m)
  after_kept [] m k = k
  after_kept (e ∷ es) m k = after_kept es (step results (length results) e m) (step_kept e m k)

  -- The machine is in order at the start.
  start_kept : (workers : ℕ) → Kept (start workers)
  start_kept workers = record {
    exact = λ n. omega (arith, none_held workers n);
    once = λ n. omega arith;
    fits = λ n h. refl;
    entries = λ k p e. absurd (let f : None ≡ Some p = e in cc);
  }

-- A number that wasn't delivered has no results.
none_of : {R : Type 0} (n : ℕ) (ps : List (ℕ × R)) → times n (numbers ps) ≡ 0 → results_of n ps ≡ []
none_of n [] h = refl
none_of {R} n (p ∷ ps) h = dite (ℕ_discrete p.0 n)
    (λ e. absurd (let t : times n (p.0 ∷ []) ≡ 1 = subst (λ (k : ℕ). times n (k ∷ []) ≡ 1) (sym e) (times_one n) in omega arith))
    (λ ne. ap (λ (b : Bool). if b then p.1 ∷ results_of n ps else results_of n ps) (ne_eqb p.0 n ne) ∙ none_of n ps (let t = times_other n p.0 ne in omega arith))

-- a number that stands once, with its entry
one_of : {R : Type 0} (results : List R) (r : R) (n : ℕ) (ps : List (ℕ × R)) → slice_get results n ≡ Some r → ((k : ℕ) (p : ℕ × R) → slice_get ps k ≡ Some p → slice_get results p.0 ≡ Some p.1) → times n (numbers ps) ≡ 1 → results_of n ps ≡ r ∷ []
one_of results r n [] at each h = absurd (omega arith)
one_of {R} results r n (p ∷ ps) at each h = dite (ℕ_discrete p.0 n)
    (λ e. let t : times n (p.0 ∷ []) ≡ 1 = subst (λ (k : ℕ). times n (k ∷ []) ≡ 1) (sym e) (times_one n) in
    let same : Some p.1 ≡ Some r = sym (each zero p refl) ∙ (ap (slice_get results) e ∙ at) in
    let is : p.1 ≡ r = cc in
    ap (λ (b : Bool). if b then p.1 ∷ results_of n ps else results_of n ps) (eq-eqb p.0 n e) ∙ (λ i. is i ∷ none_of n ps (omega arith) i))
    (λ ne. ap (λ (b : Bool). if b then p.1 ∷ results_of n ps else results_of n ps) (ne_eqb p.0 n ne)
    ∙ one_of results r n ps at (λ k q f. each (suc k) q f) (let t = times_other n p.0 ne in omega arith))

-- One entry more at the front of a list is the front and this entry.
take_next : {R : Type 0} (rs : List R) (n : ℕ) (r : R) → slice_get rs n ≡ Some r → take (suc n) rs ≡ take n rs ++ r ∷ []
take_next [] n r e = absurd (let f : None ≡ Some r = e in cc)
take_next (x ∷ rs) zero r e = let is : x ≡ r = (let f : Some x ≡ Some r = e in cc) in λ i. is i ∷ []
take_next (x ∷ rs) (suc n) r e = ap (λ (l : List _). x ∷ l) (take_next rs n r e)

-- A list has an entry at each index below its length.
pub got : {R : Type 0} (rs : List R) (n : ℕ) → n < length rs → (r : R) × (slice_get rs n ≡ Some r)
got [] n h = absurd (omega arith)
got (x ∷ rs) zero h = (x, refl)
got (x ∷ rs) (suc n) h = got rs n (omega arith)

module _ {R : Type 0} (results : List R) (ps : List (ℕ × R)) (each : (k : ℕ) (p : ℕ × R) → slice_get ps k ≡ Some p → slice_get results p.0 ≡ Some p.1) (once : (n : ℕ) → n < length results → times n (numbers ps) ≡ 1) where
  -- The results below n, sorted by number, are the first n results.
  sorts : (n : ℕ) → n ≤ length results → by_number n ps ≡ take n results
  sorts zero h = refl
  sorts (suc n) h =
      let r = got results n (omega arith) in
      let a = sorts n (omega arith) in
      let b = one_of results r.0 n ps r.1 each (once n (omega arith)) in
      (λ i. a i ++ b i) ∙ sym (take_next results n r.0 r.1)

-- The machine is in order after any list of events, by any number of workers.
pub core_law : (R : Type 0) → CoreAnyOrder R
core_law R workers results events =
    let m = after results (length results) events (start workers) in
    let k : Kept results m = after_kept results events (start workers) (start_kept results workers) in
    let diff : (n : ℕ) → times n (numbers m.delivered) < 2 = λ n. let a = k.exact n in let b = k.once n in omega arith in record {
      different = diff;
      exact = k.exact;
      once = k.once;
      entries = k.entries;
      sorted = λ long. sorts results m.delivered k.entries
          (full (length results) (numbers m.delivered) diff (λ n h. let a = k.exact n in let b = k.fits n h in omega arith) (length-numbers m.delivered ∙ long)) (length results) (omega arith) ∙ take-length results;
    }

-- No number past the tiles is ever delivered.
pub delivered_small : {R : Type 0} (results : List R) (events : List Event) (workers : ℕ) (n : ℕ) → length results ≤ n → times n (numbers (after results (length results) events (start workers)).delivered) ≡ 0
delivered_small results events workers n h =
    let k = after_kept results events (start workers) (start_kept results workers) in
    let a = k.exact n in let b = k.fits n h in omega arith
