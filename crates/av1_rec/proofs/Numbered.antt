-- Parts that begin with their numbers, read one after another.
use Rattle.std.proofs.Common.{◌≡◌, ◌≤◌, ◌<◌, ℕ, suc, ◌+◌, ◌-◌, List, [], ◌∷◌, ◌++◌, Result, Ok, Err, refl, sym, ap, ◌∙◌, append_assoc, arith}
use Rattle.std.proofs.lemmas.List.{append-nil}
use Rattle.av1_rec.specs.declared.text.fault.Fault.{Fault}
use Rattle.av1_rec.specs.declared.text.fault.TextError.{TextError}
use Rattle.av1_rec.specs.declared.text.fault.TextError.TheVariants as errors
use Rattle.av1_rec.proofs.Many.{with_front}
use Rattle.av1_rec.specs.Lines.{numbered, Fails, ◌>>=◌}

module _ {A : Type 0} (read : ℕ → List ℕ → Result (A × List ℕ) Fault) where
  -- a part read before the others may count to those read so far
  regroup : (front : List A) (a : A) (r : Result (List A × List ℕ) Fault) → with_front front (r >>= λ others. Ok (a ∷ others.0, others.1)) ≡ with_front (front ++ a ∷ []) r
  regroup front a (Err e) = refl
  regroup front a (Ok x) = ap (λ (l : List A). Ok (l, x.1)) (sym (append_assoc front (a ∷ []) x.0))

  -- one numbered part read leaves what the list gives in all
  pub numbered_more : (front : List A) (count i : ℕ) (text : List ℕ) (a : A) (after : List ℕ) (total : Result (List A × List ℕ) Fault) → i < count → read i text ≡ Ok (a, after)
      → with_front front (numbered read i (count - i) text) ≡ total → with_front (front ++ a ∷ []) (numbered read (i + 1) (count - (i + 1)) after) ≡ total
  unfolding numbered
  numbered_more front count i text a after total lt h so_far =
      let k : count - i ≡ suc (count - (i + 1)) = omega arith in
      let one : with_front front (numbered read i (count - i) text) ≡ with_front (front ++ a ∷ []) (numbered read (i + 1) (count - (i + 1)) after) = rw (k, h) (regroup front a (numbered read (i + 1) (count - (i + 1)) after)) in
      sym one ∙ so_far

  -- a numbered part that fails makes the whole list fail
  pub numbered_fails : (e : TextError) (front : List A) (count i : ℕ) (text : List ℕ) (total : Result (List A × List ℕ) Fault) → i < count → Fails e (read i text)
      → with_front front (numbered read i (count - i) text) ≡ total → Fails e total
  unfolding numbered
  numbered_fails errors.OutOfMemory front count i text total lt h so_far = tt
  numbered_fails (errors.Fault f) front count i text total lt h so_far =
      let k : count - i ≡ suc (count - (i + 1)) = omega arith in
      let one : with_front front (numbered read i (count - i) text) ≡ Err f = rw (k, h) refl in
      sym so_far ∙ one

  -- after the last numbered part the list is what was read
  pub numbered_done : (front : List A) (count i : ℕ) (text : List ℕ) (total : Result (List A × List ℕ) Fault) → count ≤ i → with_front front (numbered read i (count - i) text) ≡ total → total ≡ Ok (front, text)
  unfolding numbered
  numbered_done front count i text total le so_far =
      let k : count - i ≡ 0 = omega arith in
      let one : with_front front (numbered read i (count - i) text) ≡ Ok (front, text) = rw k (ap (λ (l : List A). Ok (l, text)) (append-nil front)) in
      sym so_far ∙ one

  -- behind no numbered parts a list gives what is read
  pub numbered_start : (r : Result (List A × List ℕ) Fault) → with_front [] r ≡ r
  numbered_start (Err e) = refl
  numbered_start (Ok x) = refl

-- the steps of reading numbered parts
pub ruleset numbered_steps = (numbered_more, numbered_fails, numbered_done, numbered_start)
