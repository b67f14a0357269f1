-- A row's samples, one after another, and rows.
use Rattle.std.proofs.Common.{◌≡◌, ◌≤◌, ◌<◌, ℕ, suc, ◌+◌, ◌-◌, ℤ, pos, List, [], ◌∷◌, ◌++◌, Bool, Option, Some, None, Ok, Err, refl, sym, ap, ◌∙◌, append_assoc, arith}
use Rattle.std.specs.Prelude.{codes}
use Rattle.std.proofs.lemmas.List.{append-nil}
use Rattle.av1_rec.specs.declared.text.fault.Fault.TheVariants.{Wrong}
use Rattle.av1_rec.specs.Fields.{tag, below, option_bind}
use Rattle.av1_rec.specs.Lines.{row, line_or}

-- what is read, behind what was read before
abbrev pub behind : List ℤ → Option (List ℤ × List ℕ) → Option (List ℤ × List ℕ)
behind front read = option_bind read (λ x. Some (front ++ x.0, x.1))

-- A sample read before the others may count to those read so far.
regroup : (front : List ℤ) (v : ℤ) (o : Option (List ℤ × List ℕ)) → behind front (option_bind o (λ vs. Some (v ∷ vs.0, vs.1))) ≡ behind (front ++ v ∷ []) o
regroup front v None = refl
regroup front v (Some x) = ap (λ (l : List ℤ). Some (l, x.1)) (sym (append_assoc front (v ∷ []) x.0))

-- One sample read leaves what the row gives in all.
pub row_more : (wide : Bool) (limit count i : ℕ) (front : List ℤ) (v : ℕ) (text after : List ℕ) (total : Option (List ℤ × List ℕ)) → i < count → below wide limit text ≡ Some (v, after)
    → behind front (row wide limit (count - i) text) ≡ total → behind (front ++ pos v ∷ []) (row wide limit (count - (i + 1)) after) ≡ total
unfolding row
row_more wide limit count i front v text after total lt h so_far =
    let k : count - i ≡ suc (count - (i + 1)) = omega arith in
    let one : behind front (row wide limit (count - i) text) ≡ behind (front ++ pos v ∷ []) (row wide limit (count - (i + 1)) after) = rw (k, h) (regroup front (pos v) (row wide limit (count - (i + 1)) after)) in
    sym one ∙ so_far

-- A wrong sample makes the whole row wrong.
pub row_wrong : (wide : Bool) (limit count i : ℕ) (front : List ℤ) (text : List ℕ) (total : Option (List ℤ × List ℕ)) → i < count → below wide limit text ≡ None
    → behind front (row wide limit (count - i) text) ≡ total → total ≡ None
unfolding row
row_wrong wide limit count i front text total lt h so_far =
    let k : count - i ≡ suc (count - (i + 1)) = omega arith in
    let one : behind front (row wide limit (count - i) text) ≡ None = rw (k, h) refl in
    sym so_far ∙ one

-- After the last sample a row gives its samples, if a line feed follows.
pub row_end : (wide : Bool) (limit count i : ℕ) (front : List ℤ) (text : List ℕ) (total : Option (List ℤ × List ℕ)) → count ≤ i → behind front (row wide limit (count - i) text) ≡ total
    → total ≡ option_bind (tag (codes "\n") text) (λ rest. Some (front, rest))
unfolding row
row_end wide limit count i front text total le so_far =
    let k : count - i ≡ 0 = omega arith in
    let one : behind front (row wide limit (count - i) text) ≡ behind front (option_bind (tag (codes "\n") text) (λ rest. Some ([], rest))) = rw k refl in
    sym so_far ∙ one ∙ last (tag (codes "\n") text)
  where
    last : (o : Option (List ℕ)) → behind front (option_bind o (λ rest. Some ([], rest))) ≡ option_bind o (λ rest. Some (front, rest))
    last None = refl
    last (Some rest) = ap (λ (l : List ℤ). Some (l, rest)) (append-nil front)

-- Behind no samples a row gives what is read.
pub row_start : (o : Option (List ℤ × List ℕ)) → behind [] o ≡ o
row_start None = refl
row_start (Some x) = refl

pub ruleset row_steps = (row_more, row_wrong, row_end, row_start)

-- A row whose line feed follows is a line that was read.
pub line_is : (read : List ℕ → Option (List ℤ × List ℕ)) (text : List ℕ) (front : List ℤ) (rest : List ℕ) (left : ℕ) (o : Option (List ℕ)) → read text ≡ option_bind o (λ r. Some (front, r)) → o ≡ Some rest → line_or left (read text) ≡ Ok (front, rest)
line_is read text front rest left o e h = let k : read text ≡ Some (front, rest) = e ∙ rw h refl in rw k refl

-- A row without its line feed is a fault of its line.
pub line_wrong : (read : List ℕ → Option (List ℤ × List ℕ)) (text : List ℕ) (front : List ℤ) (left : ℕ) (o : Option (List ℕ)) → read text ≡ option_bind o (λ r. Some (front, r)) → o ≡ None → line_or left (read text) ≡ Err (Wrong left)
line_wrong read text front left o e h = let k : read text ≡ None = e ∙ rw h refl in rw k refl
