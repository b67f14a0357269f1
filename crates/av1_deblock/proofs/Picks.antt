-- One of two lists, taken entry by entry.
use Rattle.std.proofs.Common.{◌≡◌, ℕ, ℤ, pos, ◌+◌, ◌<◌, ◌≤◌, Bool, true, false, List, length, set, get_or, length-set, if◌then◌else◌, inl, inr, arith, refl, sym, subst, ◌∙◌}
use Rattle.std.proofs.lemmas.Bool.{cases_eq}
use Rattle.std.proofs.lemmas.Grind.{get_or-set_at}
use Rattle.std.proofs.lemmas.List.{get_or-set_other, ext_get_or}

-- new has the picked list's first j entries, and elsewhere the entries of old
pub record HasPicked (first : Bool) (other old : List ℤ) (j : ℕ) (new : List ℤ) : Type 0 where
  pub long : length new ≡ length old
  pub done : (i : ℕ) → i < j → get_or new i (pos 0) ≡ get_or (if first then other else old) i (pos 0)
  pub left : (i : ℕ) → j ≤ i → get_or new i (pos 0) ≡ get_or old i (pos 0)

-- a list of which no entry is picked yet is the old one
pub picked_none : (first : Bool) (other old : List ℤ) → HasPicked first other old 0 old
picked_none first other old = record { long = refl; done = λ i l. absurd (omega arith); left = λ i l. refl }

-- the entry that is written is the picked list's
either : (first : Bool) (other old new : List ℤ) (j : ℕ) → get_or new j (pos 0) ≡ get_or old j (pos 0) → (if first then get_or other j (pos 0) else get_or new j (pos 0)) ≡ get_or (if first then other else old) j (pos 0)
either true other old new j h = refl
either false other old new j h = h

-- one entry more is picked
pub picked_more : (first : Bool) (other old new : List ℤ) (j : ℕ) → j < length old → HasPicked first other old j new → HasPicked first other old (j + 1) (set new j (if first then get_or other j (pos 0) else get_or new j (pos 0)))
picked_more first other old new j l h = record {
  long = length-set _ _ _ ∙ h.long;
  done = λ i li. elim (cases_eq i j) [
    | inl same ↦
        get_or-set_at new j i (if first then get_or other j (pos 0) else get_or new j (pos 0)) (pos 0) (omega arith) (omega (arith, h.long))
        ∙ either first other old new j (h.left j (omega arith))
        ∙ sym (subst (λ k. get_or (if first then other else old) k (pos 0) ≡ get_or (if first then other else old) j (pos 0)) (sym same) refl)
    | inr apart ↦ get_or-set_other new j i (if first then get_or other j (pos 0) else get_or new j (pos 0)) (pos 0) (λ f. apart (omega arith)) ∙ h.done i (omega arith)
  ];
  left = λ i li. get_or-set_other new j i (if first then get_or other j (pos 0) else get_or new j (pos 0)) (pos 0) (λ f. omega arith) ∙ h.left i (omega arith);
}

-- the picked list is as long as the old one
same_long : (first : Bool) (other old : List ℤ) → length other ≡ length old → length old ≡ length (if first then other else old)
same_long true other old h = sym h
same_long false other old h = refl

-- a list of which all entries are picked is the picked list
pub picked_all : (first : Bool) (other old new : List ℤ) (j : ℕ) → length other ≡ length old → length other ≤ j → HasPicked first other old j new → new ≡ (if first then other else old)
picked_all first other old new j e n h =
    ext_get_or (pos 0) new (if first then other else old) (h.long ∙ same_long first other old e) (λ i l. h.done i (omega (arith, h.long, e)))
