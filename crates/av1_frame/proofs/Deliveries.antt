-- What a coder's answer says of the slot.
use Rattle.std.proofs.Common.{◌≡◌, ℕ, List, Option, Some, None, Result, Ok, Err, IfOk, IfErr, OnOk, Vec, Global, [], ◌∷◌, refl, ap, ◌∙◌, subst, sym}
use mathlib.Core.Option.{some}
use lib.ListN.{get_elem?}
use Rattle.atomic_table.specs.Table.{Me, rest}
use Rattle.av1_tiling.specs.Views.{View, SameShape}
use Rattle.av1_frame.specs.declared.coder.CodeError.{CodeError}
use Rattle.av1_frame.specs.declared.coder.CodeError.TheVariants.{Refused}
use Rattle.av1_frame.specs.declared.doing.About.{About}
use Rattle.av1_frame.specs.declared.delivered.Place.{Place}
use Rattle.av1_frame.specs.declared.delivered.Place.TheVariants.{Start, Done}
use Rattle.av1_frame.specs.AtHome.{IsResult, AtHome}

-- a coder's three clauses say that its answer is a result
pub coder_result : (T : Type 0) (m : Option (List ℕ × View)) (v w : View) (r : Result (Vec ℕ Global) CodeError) → IfOk r (λ bytes. m ≡ Some (bytes.items, w)) → OnOk r (SameShape v w) → (r ≡ Err Refused → m ≡ None)
    → IsResult {T = T} m v (record { coded = r; view = w })
coder_result T m v w (Ok bytes) a b c = (a, b)
coder_result T m v w (Err e) a b c = λ is. c (ap (λ (e : CodeError). Err e) is)

module _ {T C : Type 0} (meaning : C → View → Option (List ℕ × View)) where
  -- A delivered result is what may lie at home in the slot of its tile.
  pub done_at : (about : About T C) (n : ℕ) (c : C) (v w : View) (r : Result (Vec ℕ Global) CodeError) → c ≡ about.coder → get_elem? about.starts n ≡ some v
      → IfOk r (λ bytes. meaning c v ≡ Some (bytes.items, w)) → OnOk r (SameShape v w) → (r ≡ Err Refused → meaning c v ≡ None)
      → AtHome meaning about n 3 (Done (record { coded = r; view = w }))
  done_at about n c v w r same at a b d = record {
    start = λ e. absurd (let f : 3 ≡ 0 = e in cc);
    done = λ _. (record { coded = r; view = w }, refl, (v, at, subst (λ (c : C). IsResult {T = T} (meaning c v) v (record { coded = r; view = w })) same (coder_result T (meaning c v) v w r a b d)));
  }

-- The value in the first of the slots that a seat has out, or a default.
abbrev value : {S : Type 0} → S → List (ℕ × S) → S
value d [] = d
value d (p ∷ ps) = p.1

module _ {S V : Type 0} (n : ℕ) where
  -- what was read out of the slot is what the claim told of
  pub read_first : (m1 : Me S V) (d1 : V) (x y : S) (c : List (ℕ × S)) → m1 ≡ (d1, (n, x) ∷ c) → m1.1 ≡ (n, y) ∷ rest m1.1 → y ≡ x
  read_first m1 d1 x y c is has = sym (ap (value y) has) ∙ ap (λ (m : Me S V). value y m.1) is

  -- after an exchange the seat still has the slot
  pub still_has : (m2 m1 : Me S V) (out : S) → m2 ≡ (m1.0, (n, out) ∷ rest m1.1) → m2.1 ≡ (n, out) ∷ rest m2.1
  still_has m2 m1 out is = ap (λ (m : Me S V). m.1) is ∙ ap (λ (m : Me S V). (n, out) ∷ rest m.1) (sym is)

  -- the seat after a claim, a take and a put
  pub worked : (m0 m1 m2 m4 : Me S V) (d1 : V) (x out done : S) → m0.1 ≡ [] → m1 ≡ (d1, (n, x) ∷ m0.1) → m2 ≡ (m1.0, (n, out) ∷ rest m1.1) → m4 ≡ (m2.0, (n, done) ∷ rest m2.1)
      → m4 ≡ (d1, (n, done) ∷ [])
  worked m0 m1 m2 m4 d1 x out done empty a b c =
      c ∙ (ap (λ (m : Me S V). (m.0, (n, done) ∷ rest m.1)) b ∙ (ap (λ (m : Me S V). (m.0, (n, done) ∷ rest m.1)) a ∙ ap (λ (l : List (ℕ × S)). (d1, (n, done) ∷ l)) empty))

-- The view that a slot's starting place holds, or a default.
abbrev started : {T : Type 0} → View → Place T → View
started v (Start w) = w
started v _ = v

-- Two starting places that are equal hold equal views.
pub same_start : {T : Type 0} (v w : View) → ◌≡◌ {A = Place T} (Start v) (Start w) → v ≡ w
same_start {T} v w e = ap (λ (p : Place T). started v p) e
