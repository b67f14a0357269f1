-- Each kind of step of a seat keeps the rule on claims.
use Rattle.std.proofs.Common.{◌≡◌, ◌≢◌, ◌⊎◌, ℕ, zero, suc, ◌+◌, ◌<◌, List, [], ◌∷◌, ◌++◌, length, set, slice_index, bit_or, true, false, Option, Some, None, is_none, refl, sym, ap, ◌∙◌, subst, inl, inr, ⊎_elim, arith, get_or-set_same, get_or-set_other, length-set}
use mathlib.Core.Logic.{dite}
use mathlib.Core.Option.{some, none, some-injective, some-ne-none}
use mathlib.Core.Option as maybe
use native.Mathlib.Decide.{ℕ_discrete}
use lib.ListN.{get_elem?}
use lib.Seq.{set-get_or}
use Rattle.atomic_table.specs.Table.{State, Me, step, Act, keeps, takes, gives, stepped, Valid, carried_after, Allows, Splits, Joins}
use Rattle.atomic_table.proofs.Lists.{at_set, set_else, set_again, at_snoc, at_longer, at_last}
use Rattle.av1_frame.specs.declared.doing.Knows.{Knows}
use Rattle.av1_frame.specs.declared.doing.Doing.{Doing}
use Rattle.av1_frame.specs.declared.doing.Doing.TheVariants.{Spent, Live}
use Rattle.av1_frame.specs.Claims.{times, Has, sign, claims, claims_of, Sits, SitsIf, Ruled, fresh, is_idle, taking, AtBy, IsAbout, with_claimed, with_missed, with_closed, Claimed, Finished, Looked, joined, split_off}
use Rattle.av1_frame.proofs.Counting.{times-append, times_one, times_other, claims_of-set, claims_of-snoc, one_claims, two_claim}

-- An entry that is set in a list can be read back from it.
pub set_at : {A : Type 0} (l : List A) (i : ℕ) (a b : A) → get_elem? l i ≡ some b → get_elem? (set l i a) i ≡ some a
set_at [] i a b e = absurd (some-ne-none b (sym e))
set_at (x ∷ xs) zero a b e = refl
set_at (x ∷ xs) (suc i) a b e = set_at xs i a b e

module _ {X : Type 0} where
  -- What a live seat knows, or a default for a spent one.
  abbrev pub known : Knows X → Doing X → Knows X
  known k (Live l) = l
  known k Spent = k

  -- Two live seats that are equal know equal things.
  pub same_known : (k l : Knows X) → some (Live k) ≡ some (Live l) → k ≡ l
  same_known k l e = ap (known k) (some-injective (Live k) (Live l) e)

-- The sign of a number is 0 or 1.
pub sign_small : (x : ℕ) → sign x < 2
sign_small zero = omega arith
sign_small (suc x) = omega arith

-- a fact for each number and its word, after a write
pointwise : (words : List ℕ) (i x : ℕ) → i < length words → (P : ℕ → ℕ → Type 0) → P i x → ((n : ℕ) → n ≢ i → P n (slice_index words n)) → (n : ℕ) → P n (slice_index (set words i x) n)
pointwise words i x h P here others n = dite (ℕ_discrete n i)
    (λ e. subst (λ (z : ℕ). P z (slice_index (set words i x) z)) (sym e) (subst (λ (w : ℕ). P i w) (sym (get_or-set_same words i x 0 h)) here))
    (λ ne. subst (λ (w : ℕ). P n w) (sym (get_or-set_other words i n x 0 ne)) (others n ne))

module _ {S X : Type 0} (At : X → ℕ → ℕ → S → Type 0) (about : X) where
  -- The state of a table whose seats claim tiles.
  abbrev St : Type 0
  St = State S (Doing X)

  -- What a seat knows of the words stays true when a word becomes one that isn't 0.
  still : (s : St) (i x : ℕ) → i < length s.words → x ≢ 0 → (d : Doing X) → ((l : Knows X) → d ≡ Live l → l.held ≡ Some i → x ≡ 1) → SitsIf s.words about d → SitsIf (set s.words i x) about d
  still s i x inside nonzero Spent free h = tt
  still s i x inside nonzero (Live l) free h = record {
    same = h.same;
    opened = λ n e. ((h.opened n e).0, pointwise s.words i x inside (λ n w. l.held ≡ Some n → w ≡ 1) (λ e'. free l refl e') (λ n ne e'. (h.opened n e').1) n e);
    taken = λ n m. pointwise s.words i x inside (λ n w. Has l.missed n → w ≢ 0) (λ _. nonzero) (λ n ne m'. h.taken n m') n m;
  }

  -- the seat id steps on the word i, which becomes x
  restep : (s : St) (r : Ruled At about s) (id i x : ℕ) (k k' : Knows X) (homes' : List (maybe.Option S)) → i < length s.words → get_elem? s.views id ≡ some (Live k) → x ≢ 0
      → (x ≡ 0) ⊎ ((x ≡ 1) ⊎ (x ≡ 3)) → length homes' ≡ length s.homes → ((n : ℕ) → n ≢ i → get_elem? homes' n ≡ get_elem? s.homes n)
      → ((n : ℕ) → times n k'.claimed + sign (slice_index s.words n) ≡ times n k.claimed + sign (slice_index (set s.words i x) n))
      → Sits (set s.words i x) about k'
      → ((j : ℕ) (l : Knows X) → j ≢ id → get_elem? s.views j ≡ some (Live l) → l.held ≡ Some i → x ≡ 1)
      → ((n : ℕ) → n ≢ i → k.held ≡ Some n → k'.held ≡ Some n)
      → (x ≡ 1 → (j : ℕ) × (l : Knows X) × (get_elem? (set s.views id (Live k')) j ≡ some (Live l)) × (l.held ≡ Some i))
      → (x ≡ 1 → get_elem? homes' i ≡ some none)
      → (x ≢ 1 → (y : S) × (get_elem? homes' i ≡ some (some y)) × At about i x y)
      → Ruled At about record { words = set s.words i x; homes = homes'; views = set s.views id (Live k') }
  restep s r id i x k k' homes' inside at nonzero fits as_deep slots count mine others stays opens out_ home_ = record {
    deep = as_deep ∙ (r.deep ∙ sym (length-set s.words i x));
    values = pointwise s.words i x inside (λ n w. (w ≡ 0) ⊎ ((w ≡ 1) ⊎ (w ≡ 3))) fits (λ n ne. r.values n);
    once = λ n. let a = claims_of-set s.views id (Live k) (Live k') n at in let b = r.once n in let c = count n in omega arith;
    seats = λ j d e. ⊎_elim (λ (t : (j ≡ id) × (Live k' ≡ d)). subst (λ (d : Doing X). SitsIf (set s.words i x) about d) t.1 mine)
        (λ (t : (j ≢ id) × (get_elem? s.views j ≡ some d)). still s i x inside nonzero d (λ l is h. others j l t.0 (t.1 ∙ ap (λ (d : Doing X). some d) is) h) (r.seats j d t.1)) (at_set s.views id j (Live k') d e);
    opened = pointwise s.words i x inside (λ n w. w ≡ 1 → (j : ℕ) × (l : Knows X) × (get_elem? (set s.views id (Live k')) j ≡ some (Live l)) × (l.held ≡ Some n)) opens
        (λ n ne w. let o = r.opened n w in dite (ℕ_discrete o.0 id)
        (λ e. (id, k', set_at s.views id (Live k') (Live k) at, stays n ne (ap (λ (l : Knows X). l.held) (same_known k o.1 (sym at ∙ subst (λ (j : ℕ). get_elem? s.views j ≡ some (Live o.1)) e o.2)) ∙ o.3)))
        (λ ne'. (o.0, o.1, set_else s.views id o.0 (Live k') ne' ∙ o.2, o.3)));
    out = pointwise s.words i x inside (λ n w. w ≡ 1 → get_elem? homes' n ≡ some none) out_ (λ n ne w. slots n ne ∙ r.out n w);
    home = λ n lt. pointwise s.words i x inside (λ n w. n < length s.words → w ≢ 1 → (y : S) × (get_elem? homes' n ≡ some (some y)) × At about n w y) (λ _ ne. home_ ne)
        (λ n ne lt' ne1. let h = r.home n lt' ne1 in (h.0, slots n ne ∙ h.1, h.2)) n (subst (λ (m : ℕ). n < m) (length-set s.words i x) lt);
  }

  -- What a seat of a table in order knows of the words is true.
  own : (s : St) (r : Ruled At about s) (id : ℕ) (k : Knows X) → get_elem? s.views id ≡ some (Live k) → Sits s.words about k
  own s r id k at = r.seats id (Live k) at

  -- a number that a seat holds, no other holds
  alone : (s : St) (r : Ruled At about s) (id n : ℕ) (k : Knows X) → get_elem? s.views id ≡ some (Live k) → k.held ≡ Some n
      → (j : ℕ) (l : Knows X) → j ≢ id → get_elem? s.views j ≡ some (Live l) → l.held ≡ Some n → ⊥
  alone s r id n k at h j l ne at' h' =
      let a = (own s r id k at).opened n h in let b = (own s r j l at').opened n h' in
      let two = two_claim s.views j id (Live l) (Live k) n ne at' at in
      let all = r.once n in let one : sign (slice_index s.words n) ≡ 1 = ap sign a.1 in
      let p = a.0 in let q = b.0 in omega arith

  -- A slot below the number of slots has a word.
  below : (s : St) (r : Ruled At about s) (slots n : ℕ) → length s.homes ≡ slots → n < slots → n < length s.words
  below s r slots n e h = let d = r.deep in omega arith

  -- A seat that holds nothing doesn't hold a number.
  none_is_none : (k : Knows X) (n : ℕ) {A : Type 0} → k.held ≡ None → k.held ≡ Some n → A
  none_is_none k n e f = let h : None ≡ Some n = sym e ∙ f in cc

  -- What a claim of tile n must keep and must tell.
  abbrev ClaimGoal : (slots id n : ℕ) → Knows X → St → ℕ → Type 0
  ClaimGoal slots id n k s z = (w : Doing X) × (a : Act S) × Valid s.homes [] a × Ruled At about (stepped s n (bit_or z 1) id [] w a) × Claimed At (step slots n 1 0 none) (Live k, []) z (w, carried_after [] a)

  -- A claim of a free tile keeps the rule and tells that the tile was free.
  claim_free : (slots id n : ℕ) (k : Knows X) → k.held ≡ None → (s : St) (r : Ruled At about s) → n < length s.words → get_elem? s.views id ≡ some (Live k) → slice_index s.words n ≡ 0 → ClaimGoal slots id n k s 0
  claim_free slots id n k idle s r inside at w =
      let h = r.home n inside (λ e. let f : 0 ≡ 1 = sym w ∙ e in cc) in
      let none_has : claims_of n s.views ≡ 0 = r.once n ∙ ap sign w in
      let mine = one_claims s.views id (Live k) n at in
      let o = own s r id k at in
      let k' : Knows X = record { claimed = k.claimed ++ n ∷ []; missed = k.missed; held = Some n; about = k.about } in
      let here : slice_index (set s.words n 1) n ≡ 1 = get_or-set_same s.words n 1 0 inside in (
        with_claimed k n,
        takes n h.0,
        h.1,
        restep s r id n 1 k k' (set s.homes n none) inside at (λ e. cc) (inr (inl refl)) (length-set s.homes n none)
            (λ m ne. set_else s.homes n m none ne)
            (pointwise s.words n 1 inside (λ m v. times m k'.claimed + sign (slice_index s.words m) ≡ times m k.claimed + sign v)
            (rw w (omega (arith, times-append n k.claimed (n ∷ []), times_one n)))
            (λ m ne. omega (arith, times-append m k.claimed (n ∷ []), times_other m n (λ e. ne (sym e)))))
            (record {
              same = o.same;
              opened = λ m e. let same : n ≡ m = grind arith in subst (λ (m : ℕ). Has k'.claimed m × (slice_index (set s.words n 1) m ≡ 1)) same (omega (arith, times-append n k.claimed (n ∷ []), times_one n), here);
              taken = λ m t. pointwise s.words n 1 inside (λ m v. Has k.missed m → v ≢ 0) (λ _ e. cc) (λ m ne t. o.taken m t) m t;
            })
            (λ j l ne at' e. refl)
            (λ m ne e. none_is_none k m idle e)
            (λ _. (id, k', set_at s.views id (Live k') (Live k) at, refl))
            (λ _. Rattle.atomic_table.proofs.Lists.set_here s.homes n none (let d = r.deep in omega arith))
            (λ ne. absurd (ne refl)),
        ((λ _. (omega arith, (h.0, subst (λ (a : X). At a n 0 h.0) (sym o.same) (subst (λ (v : ℕ). At about n v h.0) w h.2), refl))), (λ ne. absurd (ne refl))),
      )

  -- a claim of a taken tile keeps the rule, and the tile's word stays
  claim_taken : (slots id n x : ℕ) (k : Knows X) → k.held ≡ None → (s : St) (r : Ruled At about s) → n < length s.words → get_elem? s.views id ≡ some (Live k) → slice_index s.words n ≡ x → x ≢ 0 → bit_or x 1 ≡ x
      → ClaimGoal slots id n k s x
  claim_taken slots id n x k idle s r inside at w busy stays =
      let o = own s r id k at in
      let k' : Knows X = record { claimed = k.claimed; missed = k.missed ++ n ∷ []; held = k.held; about = k.about } in
      let same_words : set s.words n (bit_or x 1) ≡ s.words = ap (set s.words n) (stays ∙ sym w) ∙ set-get_or s.words n 0 in
      let kept : Ruled At about record { words = s.words; homes = s.homes; views = set s.views id (Live k') } = record {
        deep = r.deep;
        values = r.values;
        once = λ m. let a = claims_of-set s.views id (Live k) (Live k') m at in let b = r.once m in omega arith;
        seats = λ j d e. ⊎_elim (λ (t : (j ≡ id) × (Live k' ≡ d)). subst (λ (d : Doing X). SitsIf s.words about d) t.1 (record {
          same = o.same;
          opened = o.opened;
          taken = λ m t. dite (ℕ_discrete m n) (λ e z. busy (sym w ∙ (ap (λ (m : ℕ). slice_index s.words m) (sym e) ∙ z)))
              (λ ne. o.taken m (omega (arith, times-append m k.missed (n ∷ []), times_other m n (λ e. ne (sym e)))));
        })) (λ (t : (j ≢ id) × (get_elem? s.views j ≡ some d)). r.seats j d t.1) (at_set s.views id j (Live k') d e);
        opened = λ m e. let op = r.opened m e in dite (ℕ_discrete op.0 id)
            (λ e'. none_is_none k m idle (ap (λ (l : Knows X). l.held) (same_known k op.1 (sym at ∙ subst (λ (j : ℕ). get_elem? s.views j ≡ some (Live op.1)) e' op.2)) ∙ op.3))
            (λ ne'. (op.0, op.1, set_else s.views id op.0 (Live k') ne' ∙ op.2, op.3));
        out = r.out;
        home = r.home;
      } in (
        with_missed k n,
        keeps,
        tt,
        subst (λ (ws : List ℕ). Ruled At about record { words = ws; homes = s.homes; views = set s.views id (Live k') }) (sym same_words) kept,
        ((λ z. absurd (busy z)), (λ _. refl)),
      )

  -- a claim by a seat that holds nothing keeps the rule
  pub claim_allowed : (slots id n : ℕ) (k : Knows X) → k.held ≡ None → n < slots
      → Allows (Ruled At about) slots id (Live k, []) n (λ x. bit_or x 1) (Claimed At (step slots n 1 0 none) (Live k, []))
  claim_allowed slots id n k idle h s r as_deep at small =
      let inside = below s r slots n as_deep h in
      ⊎_elim (λ e. subst (λ (x : ℕ). ClaimGoal slots id n k s x) (sym e) (claim_free slots id n k idle s r inside at e))
      (λ t. ⊎_elim (λ e. subst (λ (x : ℕ). ClaimGoal slots id n k s x) (sym e) (claim_taken slots id n 1 k idle s r inside at e (λ z. cc) refl))
      (λ e. subst (λ (x : ℕ). ClaimGoal slots id n k s x) (sym e) (claim_taken slots id n 3 k idle s r inside at e (λ z. cc) refl)) t)
      (r.values n)

  -- What the end of a claim must keep and must tell.
  abbrev FinishGoal : (slots id n : ℕ) → Knows X → S → St → ℕ → Type 0
  FinishGoal slots id n k y s z = (w : Doing X) × (a : Act S) × Valid s.homes ((n, y) ∷ []) a × Ruled At about (stepped s n (bit_or z 2) id ((n, y) ∷ []) w a)
      × Finished (step slots n 2 0 none) (Live k, (n, y) ∷ []) z (w, carried_after ((n, y) ∷ []) a)

  -- the end of a claim by the seat that holds the tile keeps the rule
  pub finish_allowed : (slots id n : ℕ) (k : Knows X) (y : S) → k.held ≡ Some n → n < slots → At k.about n 3 y
      → Allows (Ruled At about) slots id (Live k, (n, y) ∷ []) n (λ x. bit_or x 2) (Finished (step slots n 2 0 none) (Live k, (n, y) ∷ []))
  finish_allowed slots id n k y holds h result s r as_deep at small =
      let inside = below s r slots n as_deep h in
      let o = own s r id k at in
      let is_1 = (o.opened n holds).1 in
      let k' : Knows X = record { claimed = k.claimed; missed = k.missed; held = None; about = k.about } in
      let goal : FinishGoal slots id n k y s 1 = (
        with_closed k,
        gives,
        tt,
        restep s r id n 3 k k' (set s.homes n (some y)) inside at (λ e. cc) (inr (inr refl)) (length-set s.homes n (some y))
            (λ m ne. set_else s.homes n m (some y) ne)
            (pointwise s.words n 3 inside (λ m v. times m k'.claimed + sign (slice_index s.words m) ≡ times m k.claimed + sign v) (rw is_1 refl) (λ m ne. refl))
            (record {
              same = o.same;
              opened = λ m e. absurd (let f : None ≡ Some m = e in cc);
              taken = λ m t. pointwise s.words n 3 inside (λ m v. Has k.missed m → v ≢ 0) (λ _ e. cc) (λ m ne t. o.taken m t) m t;
            })
            (λ j l ne at' e. absurd (alone s r id n k at holds j l ne at' e))
            (λ m ne e. absurd (ne (let f : Some m ≡ Some n = sym e ∙ holds in grind arith)))
            (λ e. absurd (let f : 3 ≡ 1 = e in cc))
            (λ e. absurd (let f : 3 ≡ 1 = e in cc))
            (λ _. (y, Rattle.atomic_table.proofs.Lists.set_here s.homes n (some y) (let d = r.deep in omega arith), subst (λ (a : X). At a n 3 y) o.same result)),
        refl,
      ) in
      subst (λ (x : ℕ). FinishGoal slots id n k y s x) (sym is_1) goal

  -- a look changes nothing
  pub look_allowed : (slots id i : ℕ) (m : Me S (Doing X)) → Allows (Ruled At about) slots id m i (λ x. x) (Looked (step slots i 0 0 none) m)
  look_allowed slots id i m s r as_deep at small = (
    m.0,
    keeps,
    tt,
    subst (λ (t : List ℕ × List (Doing X)). Ruled At about record { words = t.0; homes = s.homes; views = t.1 }) (λ c. (sym (set-get_or s.words i 0) c, sym (set_again s.views id m.0 at) c)) r,
    (refl, λ n. let a = one_claims s.views id m.0 n at in let b = r.once n in let c = sign_small (slice_index s.words n) in omega arith),
  )

  -- a seat that is split off keeps the rule
  pub split_allowed : (id : ℕ) (k : Knows X) → Splits (Ruled At about) id (Live k) (Live k) (fresh k.about)
  split_allowed id k s r at =
      let o = own s r id k at in
      subst (λ (vs : List (Doing X)). Ruled At about record { words = s.words; homes = s.homes; views = vs ++ fresh k.about ∷ [] }) (sym (set_again s.views id (Live k) at)) (record {
        deep = r.deep;
        values = r.values;
        once = λ n. omega (arith, claims_of-snoc s.views (fresh k.about) n, r.once n);
        seats = λ j d e. ⊎_elim (λ old. r.seats j d old) (λ new. subst (λ (d : Doing X). SitsIf s.words about d) new (record { same = o.same; opened = λ n e. absurd (let f : None ≡ Some n = e in cc); taken = λ n t. absurd (omega arith) })) (at_snoc s.views (fresh k.about) d j e);
        opened = λ n e. let op = r.opened n e in (op.0, op.1, at_longer s.views (fresh k.about ∷ []) op.0 (Live op.1) op.2, op.3);
        out = r.out;
        home = r.home;
      })

  -- two seats that are joined keep the rule
  pub join_allowed : (id other : ℕ) (k l : Knows X) → k.held ≡ None → l.held ≡ None → Joins (Ruled At about) id (Live k) other (Live l) (joined (Live k) (Live l)) Spent
  join_allowed id other k l idle idle' s r at ne at2 =
      let both : Doing X = joined (Live k) (Live l) in
      let at' : get_elem? s.views other ≡ some (Live l) = sym (set_else s.views id other both ne) ∙ at2 in
      let o = own s r id k at in let o' = own s r other l at' in record {
        deep = r.deep;
        values = r.values;
        once = λ n. let a = claims_of-set s.views id (Live k) both n at in let b = claims_of-set (set s.views id both) other (Live l) Spent n at2 in let c = r.once n in omega (arith, times-append n k.claimed l.claimed);
        seats = λ j d e. ⊎_elim (λ (t : (j ≡ other) × (Spent ≡ d)). subst (λ (d : Doing X). SitsIf s.words about d) t.1 tt)
            (λ (t : (j ≢ other) × (get_elem? (set s.views id both) j ≡ some d)). ⊎_elim
            (λ (u : (j ≡ id) × (both ≡ d)). subst (λ (d : Doing X). SitsIf s.words about d) u.1 (record {
              same = o.same;
              opened = λ n e. none_is_none k n idle e;
              taken = λ n t. dite (native.Mathlib.Decide.dec_le 1 (times n k.missed)) (λ h. o.taken n (omega arith)) (λ h. o'.taken n (omega (arith, times-append n k.missed l.missed, h)));
            }))
            (λ (u : (j ≢ id) × (get_elem? s.views j ≡ some d)). r.seats j d u.1) (at_set s.views id j both d t.1)) (at_set (set s.views id both) other j Spent d e);
        opened = λ n e. let op = r.opened n e in dite (ℕ_discrete op.0 id)
            (λ e'. none_is_none k n idle (ap (λ (q : Knows X). q.held) (same_known k op.1 (sym at ∙ subst (λ (j : ℕ). get_elem? s.views j ≡ some (Live op.1)) e' op.2)) ∙ op.3))
            (λ ne'. dite (ℕ_discrete op.0 other)
            (λ e'. none_is_none l n idle' (ap (λ (q : Knows X). q.held) (same_known l op.1 (sym at' ∙ subst (λ (j : ℕ). get_elem? s.views j ≡ some (Live op.1)) e' op.2)) ∙ op.3))
            (λ ne''. (op.0, op.1, set_else (set s.views id both) other op.0 Spent ne'' ∙ (set_else s.views id op.0 both ne' ∙ op.2), op.3)));
        out = r.out;
        home = r.home;
      }

  -- An option that tests as none is none.
  idle_none : {A : Type 0} (o : Option A) → is_none o ≡ true → o ≡ None
  idle_none None e = refl
  idle_none (Some a) e = absurd (let f : false ≡ true = e in cc)

  -- a claim by an idle seat keeps the rule
  pub claims_any : (slots id n : ℕ) (d : Doing X) → is_idle d ≡ true → n < slots
      → Allows (Ruled At about) slots id (d, []) n (λ x. bit_or x 1) (Claimed At (step slots n 1 0 none) (d, []))
  claims_any slots id n Spent e h = absurd (let f : false ≡ true = e in cc)
  claims_any slots id n (Live k) e h = claim_allowed slots id n k (idle_none k.held e) h

  -- An idle seat may be told the end of a claim that it doesn't work on.
  pub finishes_any : (slots id n : ℕ) (d : Doing X) (y : S) → is_idle d ≡ true → n < slots → IsAbout about d → At about n 3 y
      → Allows (Ruled At about) slots id (taking d n, (n, y) ∷ []) n (λ x. bit_or x 2) (Finished (step slots n 2 0 none) (taking d n, (n, y) ∷ []))
  finishes_any slots id n Spent y e h is at = absurd (let f : false ≡ true = e in cc)
  finishes_any slots id n (Live k) y e h is at =
      let k' : Knows X = record { claimed = k.claimed ++ n ∷ []; missed = k.missed; held = Some n; about = k.about } in
      finish_allowed slots id n k' y refl h (subst (λ (a : X). At a n 3 y) (sym is) at)

  -- Splitting a seat off an idle one keeps the rule.
  pub splits_any : (id : ℕ) (d : Doing X) → is_idle d ≡ true → Splits (Ruled At about) id d d (split_off d)
  splits_any id Spent e = absurd (let f : false ≡ true = e in cc)
  splits_any id (Live k) e = split_allowed id k

  -- Joining two idle seats keeps the rule.
  pub joins_any : (id other : ℕ) (d d' : Doing X) → is_idle d ≡ true → is_idle d' ≡ true → Joins (Ruled At about) id d other d' (joined d d') Spent
  joins_any id other Spent d' e e' = absurd (let f : false ≡ true = e in cc)
  joins_any id other (Live k) Spent e e' = absurd (let f : false ≡ true = e' in cc)
  joins_any id other (Live k) (Live l) e e' = join_allowed id other k l (idle_none k.held e) (idle_none l.held e')

  -- the copy of a seat tells what a claim found at home
  pub at_by : (d : Doing X) (n : ℕ) (y : S) → IsAbout about d → AtBy At d n 0 y → At about n 0 y
  at_by Spent n y is at = absurd is
  at_by (Live k) n y is at = subst (λ (a : X). At a n 0 y) is at

  -- A claim keeps the rule for a seat that is given by its own state.
  pub claims_me : (slots id n : ℕ) (m : Me S (Doing X)) → is_idle m.0 ≡ true → m.1 ≡ [] → n < slots
      → Allows (Ruled At about) slots id m n (λ x. bit_or x 1) (Claimed At (step slots n 1 0 none) m)
  claims_me slots id n m idle empty h = subst (λ (c : List (ℕ × S)). Allows (Ruled At about) slots id (m.0, c) n (λ x. bit_or x 1) (Claimed At (step slots n 1 0 none) (m.0, c))) (sym empty) (claims_any slots id n m.0 idle h)

  -- The end of a claim keeps the rule for a seat that is given by its own state.
  pub finishes_me : (slots id n : ℕ) (m : Me S (Doing X)) (d : Doing X) (y : S) → m ≡ (taking d n, (n, y) ∷ []) → is_idle d ≡ true → n < slots → IsAbout about d → At about n 3 y
      → Allows (Ruled At about) slots id m n (λ x. bit_or x 2) (Finished (step slots n 2 0 none) m)
  finishes_me slots id n m d y is idle h knows at = subst (λ (m : Me S (Doing X)). Allows (Ruled At about) slots id m n (λ x. bit_or x 2) (Finished (step slots n 2 0 none) m)) (sym is) (finishes_any slots id n d y idle h knows at)

-- Two idle seats as one have the claims of the first and then of the second.
pub claims_joined : {X : Type 0} (d d' : Doing X) → is_idle d ≡ true → is_idle d' ≡ true → claims (joined d d') ≡ claims d ++ claims d'
claims_joined Spent d' e e' = absurd (let f : false ≡ true = e in cc)
claims_joined (Live k) Spent e e' = absurd (let f : false ≡ true = e' in cc)
claims_joined (Live k) (Live l) e e' = refl
