-- What a closed table gives.
use Rattle.std.proofs.Common.{◌≡◌, ◌≢◌, ◌⊎◌, ℕ, zero, suc, ◌<◌, Bool, true, false, List, [], ◌∷◌, ◌++◌, length, set, get_or, replicate, map, slice_index, slice_get, Option, Some, None, is_none, if◌then◌else◌, ◌==◌, eqb-true, refl, sym, ap, ◌∙◌, subst, inl, inr, ⊎_elim, arith}
use mathlib.Core.Logic.{dite}
use native.Mathlib.Decide.{ℕ_discrete}
use mathlib.Core.Option.{some, some-injective, some-ne-none}
use lib.ListN.{get_elem?}
use Rattle.atomic_table.specs.Table.{Final, Seen, opening}
use Rattle.atomic_table.proofs.Lists.{at_map}
use Rattle.std.proofs.lemmas.List.{length-map, length-replicate}
use Rattle.av1_tiling.specs.Views.{View}
use Rattle.av1_frame.specs.declared.doing.About.{About}
use Rattle.av1_frame.specs.declared.doing.Doing.{Doing}
use Rattle.av1_frame.specs.declared.doing.Doing.TheVariants.{Live}
use Rattle.av1_frame.specs.declared.doing.Knows.{Knows}
use Rattle.av1_frame.specs.declared.delivered.Place.{Place}
use Rattle.av1_frame.specs.declared.delivered.Place.TheVariants.{Start, Out, Done}
use Rattle.av1_frame.specs.declared.delivered.Delivered.{Delivered}
use Rattle.av1_frame.specs.Claims.{Has, sign, claims, claims_of, Ruled, SitsIf, fresh, is_idle}
use Rattle.av1_frame.specs.AtHome.{AtHome, IsResultOf, Gathered, delivered_of}
use Rattle.av1_frame.proofs.Counting.{one_claims, two_claim}
use Rattle.av1_frame.proofs.ClaimSteps.{sign_small}

-- A flag that was cleared reads as false, also past the end of the list.
pub set_false : (l : List Bool) (i : ℕ) → get_or (set l i false) i false ≡ false
set_false [] i = refl
set_false (x ∷ xs) zero = refl
set_false (x ∷ xs) (suc i) = set_false xs i

-- An entry of a list with one more at its end is an entry of the list, or the last one.
at_snoc : {A : Type 0} (l : List A) (a b : A) (j : ℕ) → get_elem? (l ++ a ∷ []) j ≡ some b → (get_elem? l j ≡ some b) ⊎ ((j ≡ length l) × (a ≡ b))
at_snoc [] a b zero e = inr (refl, some-injective a b e)
at_snoc [] a b (suc j) e = absurd (some-ne-none b (sym e))
at_snoc (x ∷ xs) a b zero e = inl e
at_snoc (x ∷ xs) a b (suc j) e = ⊎_elim (λ h. inl h) (λ h. inr (ap suc h.0, h.1)) (at_snoc xs a b j e)

-- An entry that a slice has is the list's entry at its index.
pub at_slice : {A : Type 0} (l : List A) (n : ℕ) (a : A) → slice_get l n ≡ Some a → get_elem? l n ≡ some a
at_slice [] n a e = absurd (let f : None ≡ Some a = e in cc)
at_slice (x ∷ xs) zero a e = ap some (let f : Some x ≡ Some a = e in cc)
at_slice (x ∷ xs) (suc n) a e = at_slice xs n a e

-- A list's entry at an index is the entry that a slice has.
pub slice_at : {A : Type 0} (l : List A) (n : ℕ) (a : A) → get_elem? l n ≡ some a → slice_get l n ≡ Some a
slice_at [] n a e = absurd (some-ne-none a (sym e))
slice_at (x ∷ xs) zero a e = ap (λ (y : _). Some y) (some-injective x a e)
slice_at (x ∷ xs) (suc n) a e = slice_at xs n a e

-- Indexing a list gives the entry that stands there.
index_at : (l : List ℕ) (n w : ℕ) → get_elem? l n ≡ some w → slice_index l n ≡ w
index_at [] n w e = absurd (some-ne-none w (sym e))
index_at (x ∷ xs) zero w e = some-injective x w e
index_at (x ∷ xs) (suc n) w e = index_at xs n w e

-- The index of an entry is below the length of its list.
within : {A : Type 0} (l : List A) (n : ℕ) (a : A) → get_elem? l n ≡ some a → n < length l
within [] n a e = absurd (some-ne-none a (sym e))
within (x ∷ xs) zero a e = omega arith
within (x ∷ xs) (suc n) a e = omega (arith, within xs n a e)

-- A list has an entry at each index below its length.
there : {A : Type 0} (l : List A) (n : ℕ) → n < length l → (a : A) × (get_elem? l n ≡ some a)
there [] n h = absurd (omega arith)
there (x ∷ xs) zero h = (x, refl)
there (x ∷ xs) (suc n) h = there xs n (omega arith)

-- A word that isn't 0 stands inside its list.
index_within : (l : List ℕ) (n : ℕ) → slice_index l n ≢ 0 → n < length l
index_within [] n h = absurd (h refl)
index_within (x ∷ xs) zero h = omega arith
index_within (x ∷ xs) (suc n) h = omega (arith, index_within xs n h)

module _ {T : Type 0} (words : List ℕ) (slots : List (Place T)) where
  -- Nothing gathered is right for any table.
  pub gathered_none : Gathered words slots []
  gathered_none n o e = absurd (some-ne-none o (sym e))

  -- One slot more that is gathered keeps what was gathered right.
  pub gathered_more : (items : List (Option (Delivered T))) (i w : ℕ) (p : Place T) (o : Option (Delivered T)) → Gathered words slots items → length items ≡ i → get_elem? words i ≡ some w → get_elem? slots i ≡ some p
      → o ≡ delivered_of w p → Gathered words slots (items ++ o ∷ [])
  gathered_more items i w p o old long at_w at_p is n o' e = ⊎_elim (λ h. old n o' h)
      (λ h. let same : i ≡ n = sym long ∙ sym h.0 in (w, p, subst (λ (j : ℕ). get_elem? words j ≡ some w) same at_w, subst (λ (j : ℕ). get_elem? slots j ≡ some p) same at_p, sym h.1 ∙ is))
      (at_snoc items o o' n e)

-- A choice that gives a value was taken, and gives the chosen value.
picked : {D : Type 0} (b : Bool) (d' d : D) → Some d ≡ (if b then Some d' else None) → (b ≡ true) × (d' ≡ d)
picked true d' d e = (refl, let f : Some d ≡ Some d' = e in cc)
picked false d' d e = absurd (let f : Some d ≡ None = e in cc)

-- The result in a finished slot, or a default.
abbrev done_or : {T : Type 0} → Delivered T → Place T → Delivered T
done_or d (Done e) = e
done_or d _ = d

-- Two finished slots that are equal hold equal results.
same_done : {T : Type 0} (d e : Delivered T) → ◌≡◌ {A = Place T} (Done d) (Done e) → d ≡ e
same_done {T} d e h = ap (λ (p : Place T). done_or d p) h

-- only a result at the word 3 is delivered
delivered_is : {T : Type 0} (w : ℕ) (p : Place T) (d : Delivered T) → Some d ≡ delivered_of w p → (w ≡ 3) × (p ≡ Done d)
delivered_is w (Start v) d e = absurd (let f : Some d ≡ None = e in cc)
delivered_is w Out d e = absurd (let f : Some d ≡ None = e in cc)
delivered_is w (Done d') d e = let h = picked (w == 3) d' d e in (eqb-true w 3 h.0, ap (λ (d : Delivered _). Done d) h.1)

-- An idle seat holds no tile.
idle_holds : {X : Type 0} (v : Doing X) (k : Knows X) (n : ℕ) → is_idle v ≡ true → v ≡ Live k → k.held ≡ Some n → ⊥
idle_holds v k n idle is held =
    let a : is_none k.held ≡ true = sym (ap is_idle is) ∙ idle in
    let b : false ≡ true = sym (ap (λ (o : Option ℕ). is_none o) held) ∙ a in cc

module _ {T C : Type 0} (meaning : C → View → Option (List ℕ × View)) (about : About T C) (id : ℕ) (v : Doing (About T C)) (words : List ℕ) (slots : List (Place T)) (last : Final (Seen (Ruled (AtHome meaning) about) id v) words slots) (items : List (Option (Delivered T))) (each : Gathered words slots items) where
  -- the last state meets the rule
  rule : Ruled (AtHome meaning) about last.0
  rule = last.1.0

  -- A word that was read is the word at the end.
  same_word : (n w : ℕ) → get_elem? words n ≡ some w → slice_index last.0.words n ≡ w
  same_word n w e = ap (λ (ws : List ℕ). slice_index ws n) last.2 ∙ index_at words n w e

  -- the slot of a finished tile has a result
  result_at : (n : ℕ) → slice_index last.0.words n ≡ 3 → (d : Delivered T) × (get_elem? slots n ≡ some (Done d)) × IsResultOf meaning about n d
  result_at n is_3 =
      let inside : n < length last.0.words = index_within last.0.words n (λ z. let f : 3 ≡ 0 = sym is_3 ∙ z in cc) in
      let h = rule.home n inside (λ z. let f : 3 ≡ 1 = sym is_3 ∙ z in cc) in
      let done = h.2.done is_3 in
      (done.0, last.4 n h.0 h.1 ∙ ap (λ (p : Place T). some p) done.1, done.2)

  -- Each gathered entry is a result of its tile.
  pub each_result : (n : ℕ) (d : Delivered T) → slice_get items n ≡ Some (Some d) → IsResultOf meaning about n d
  each_result n d e =
      let from = each n (Some d) (at_slice items n (Some d) e) in
      let is = delivered_is from.0 from.1 d from.4 in
      let there = result_at n (same_word n from.0 from.2 ∙ is.0) in
      let same : some (Done there.0) ≡ some (Done d) = sym there.1 ∙ (from.3 ∙ ap (λ (p : Place T). some p) is.1) in
      subst (λ (d : Delivered T). IsResultOf meaning about n d) (same_done there.0 d (some-injective (Done there.0) (Done d) same)) there.2

  -- no seat holds a tile that an idle seat claimed
  not_held : is_idle v ≡ true → (n : ℕ) → Has (claims v) n → slice_index last.0.words n ≡ 1 → ⊥
  not_held idle n has w =
      let op = rule.opened n w in
      let all = rule.once n in let small = sign_small (slice_index last.0.words n) in
      dite (ℕ_discrete op.0 id)
      (λ e. idle_holds v op.1 n idle (some-injective v (Live op.1) (sym last.1.1 ∙ subst (λ (j : ℕ). get_elem? last.0.views j ≡ some (Live op.1)) e op.2)) op.3)
      (λ ne. let two = two_claim last.0.views op.0 id (Live op.1) v n ne op.2 last.1.1 in let has' = (rule.seats op.0 (Live op.1) op.2).opened n op.3 in let q = has'.0 in omega arith)

  -- Each tile that the last seat claimed has a gathered result.
  pub each_claimed : is_idle v ≡ true → length items ≡ length words → (n : ℕ) → Has (claims v) n → (d : Delivered T) × (slice_get items n ≡ Some (Some d))
  each_claimed idle long n has =
      let mine = one_claims last.0.views id v n last.1.1 in
      let all = rule.once n in
      let busy : slice_index last.0.words n ≢ 0 = λ z. let none_has : claims_of n last.0.views ≡ 0 = all ∙ ap sign z in omega arith in
      let closed : slice_index last.0.words n ≢ 1 = λ w. not_held idle n has w in
      let is_3 : slice_index last.0.words n ≡ 3 = ⊎_elim (λ z. absurd (busy z)) (λ t. ⊎_elim (λ z. absurd (closed z)) (λ z. z) t) (rule.values n) in
      let there_ = result_at n is_3 in
      let inside : n < length last.0.words = index_within last.0.words n busy in
      let same : length last.0.words ≡ length words = ap (λ (ws : List ℕ). length ws) last.2 in
      let item = there items n (omega arith) in
      let from = each n item.0 item.1 in
      let w : from.0 ≡ 3 = sym (same_word n from.0 from.2) ∙ is_3 in
      let p : from.1 ≡ Done there_.0 = some-injective from.1 (Done there_.0) (sym from.3 ∙ there_.1) in
      (there_.0, slice_at items n (Some there_.0) (item.1 ∙ ap (λ (o : Option (Delivered T)). some o) (from.4 ∙ (λ i. delivered_of (w i) (p i)))))

-- Each word of a fresh table is 0.
zeros : (n k : ℕ) → slice_index (replicate n 0) k ≡ 0
zeros zero k = refl
zeros (suc n) zero = refl
zeros (suc n) (suc k) = zeros n k

module _ {T C : Type 0} (meaning : C → View → Option (List ℕ × View)) (about : About T C) where
  -- The only seat of a fresh table knows nothing of the words that isn't true.
  only : (words : List ℕ) (j : ℕ) (d : Doing (About T C)) → get_elem? (fresh about ∷ []) j ≡ some d → SitsIf words about d
  only words zero d e = subst (λ (d : Doing (About T C)). SitsIf words about d) (some-injective (fresh about) d e) (record { same = refl; opened = λ n e. absurd (let f : None ≡ Some n = e in cc); taken = λ n t. absurd (omega arith) })
  only words (suc j) d e = absurd (some-ne-none d (sym e))

  -- a table keeps the rule when it is made
  pub opens : (words : List ℕ) (slots : List (Place T)) → words ≡ replicate (length about.starts) 0 → slots ≡ map Start about.starts → Ruled (AtHome meaning) about (opening words slots (fresh about))
  opens words slots is_zero is_start =
      let zero_at : (n : ℕ) → slice_index words n ≡ 0 = λ n. ap (λ (ws : List ℕ). slice_index ws n) is_zero ∙ zeros (length about.starts) n in
      let long : length words ≡ length about.starts = ap (λ (ws : List ℕ). length ws) is_zero ∙ length-replicate (length about.starts) 0 in record {
        deep = length-map slots some ∙ (ap (λ (l : List (Place T)). length l) is_start ∙ (length-map about.starts Start ∙ sym long));
        values = λ n. inl (zero_at n);
        once = λ n. sym (ap sign (zero_at n));
        seats = λ j d e. only words j d e;
        opened = λ n e. absurd (let f : 0 ≡ 1 = sym (zero_at n) ∙ e in cc);
        out = λ n e. absurd (let f : 0 ≡ 1 = sym (zero_at n) ∙ e in cc);
        home = λ n inside ne. let v = there about.starts n (omega arith) in (
          Start v.0,
          at_map some slots n (Start v.0) (ap (λ (l : List (Place T)). get_elem? l n) is_start ∙ at_map Start about.starts n v.0 v.1),
          record { start = λ _. (v.0, refl, v.1); done = λ e. absurd (let f : 0 ≡ 3 = sym (zero_at n) ∙ e in cc) },
        );
      }
