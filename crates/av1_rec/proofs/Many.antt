-- Lines of one kind, one after another.
use Rattle.std.proofs.Common.{◌≡◌, ◌≤◌, ◌<◌, ℕ, suc, ◌+◌, ◌-◌, List, [], ◌∷◌, ◌++◌, Result, Ok, Err, refl, sym, ap, ◌∙◌, append_assoc, arith}
use Rattle.std.proofs.lemmas.List.{append-nil}
use Rattle.av1_rec.specs.declared.text.fault.Fault.{Fault}
use Rattle.av1_rec.specs.declared.text.fault.TextError.{TextError}
use Rattle.av1_rec.specs.declared.text.fault.TextError.TheVariants as errors
use Rattle.av1_rec.specs.Lines.{many, Fails, ◌>>=◌}

-- what is read, behind what was read before
abbrev pub with_front : {A : Type 0} → List A → Result (List A × List ℕ) Fault → Result (List A × List ℕ) Fault
with_front front read = read >>= λ x. Ok (front ++ x.0, x.1)

module _ {A : Type 0} (read : List ℕ → Result (A × List ℕ) Fault) where
  -- A part read before the others may count to those read so far.
  regroup : (front : List A) (a : A) (r : Result (List A × List ℕ) Fault) → with_front front (r >>= λ others. Ok (a ∷ others.0, others.1)) ≡ with_front (front ++ a ∷ []) r
  regroup front a (Err e) = refl
  regroup front a (Ok x) = ap (λ (l : List A). Ok (l, x.1)) (sym (append_assoc front (a ∷ []) x.0))

  -- One part read leaves what the list gives in all.
  pub many_more : (front : List A) (count i : ℕ) (text : List ℕ) (a : A) (after : List ℕ) (total : Result (List A × List ℕ) Fault) → i < count → read text ≡ Ok (a, after)
      → with_front front (many read (count - i) text) ≡ total → with_front (front ++ a ∷ []) (many read (count - (i + 1)) after) ≡ total
  unfolding many
  many_more front count i text a after total lt h so_far =
      let k : count - i ≡ suc (count - (i + 1)) = omega arith in
      let one : with_front front (many read (count - i) text) ≡ with_front (front ++ a ∷ []) (many read (count - (i + 1)) after) = rw (k, h) (regroup front a (many read (count - (i + 1)) after)) in
      sym one ∙ so_far

  -- A part that fails makes the whole list fail.
  pub many_fails : (e : TextError) (front : List A) (count i : ℕ) (text : List ℕ) (total : Result (List A × List ℕ) Fault) → i < count → Fails e (read text)
      → with_front front (many read (count - i) text) ≡ total → Fails e total
  unfolding many
  many_fails errors.OutOfMemory front count i text total lt h so_far = tt
  many_fails (errors.Fault f) front count i text total lt h so_far =
      let k : count - i ≡ suc (count - (i + 1)) = omega arith in
      let one : with_front front (many read (count - i) text) ≡ Err f = rw (k, h) refl in
      sym so_far ∙ one

  -- After the last part the list is what was read.
  pub many_done : (front : List A) (count i : ℕ) (text : List ℕ) (total : Result (List A × List ℕ) Fault) → count ≤ i → with_front front (many read (count - i) text) ≡ total → total ≡ Ok (front, text)
  unfolding many
  many_done front count i text total le so_far =
      let k : count - i ≡ 0 = omega arith in
      let one : with_front front (many read (count - i) text) ≡ Ok (front, text) = rw k (ap (λ (l : List A). Ok (l, text)) (append-nil front)) in
      sym so_far ∙ one

  -- Behind no parts a list gives what is read.
  pub many_start : (r : Result (List A × List ℕ) Fault) → with_front [] r ≡ r
  many_start (Err e) = refl
  many_start (Ok x) = refl

pub ruleset many_steps = (many_more, many_fails, many_done, many_start)
