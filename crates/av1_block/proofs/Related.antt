-- Lists related entry by entry, and a rectangle whose rows are changed in order.
use Rattle.std.proofs.Common.{◌≡◌, ℕ, zero, suc, ◌+◌, ◌-◌, ◌*◌, ◌<◌, ◌≤◌, List, ◌++◌, length, take, drop, get_or, set, refl, sym, ap, ◌∙◌, subst, inl, inr, arith, length-append}
use Rattle.std.proofs.lemmas.Bool.{cases_lt}
use Rattle.std.proofs.lemmas.Nat.{mul-le}
use Rattle.std.proofs.lemmas.List.{take_all, take_at, drop_at, get_or_append_left, get_or-append_right, get_or-set_same, get_or-set_other, get_or_default}
use Rattle.std.proofs.lemmas.List.Elements.{All-take, All-drop}
use Rattle.std.specs.List.{All}
use Rattle.av1_block.specs.Cut.{LiesIn, cut_of, overwritten, with_cut}
use Rattle.av1_block.specs.Each.{AreRelated}
use Rattle.av1_block.proofs.Runs.{run_of_overwritten}
use Rattle.av1_block.proofs.Cuts.{less_high, row_inside, length-cut_of, length-with_cut}
use Rattle.av1_block.proofs.CutLaws.{cut_of_overwritten, with_cut_append}
use Rattle.av1_block.proofs.FirstRows.{below_put}

module _ {E : Type 0} (R : E → E → Type 0) where
  -- lists that are related in one entry more
  pub related_more : (xs ys : List E) (i : ℕ) (v e : E) → i < length ys → ((k : ℕ) (d : E) → k < i → R (get_or xs k d) (get_or ys k d)) → ((k : ℕ) (d : E) → i ≤ k → get_or ys k d ≡ get_or xs k d) → R (get_or ys i e) v
      → (k : ℕ) (d : E) → k < i + 1 → R (get_or xs k d) (get_or (set ys i v) k d)
  related_more xs ys i v e within changed rest here k d below = elim (cases_lt k i) [
    | inl less ↦ subst (λ (y : E). R (get_or xs k d) y) (sym (get_or-set_other ys i k v d (λ same. omega (arith, same, less)))) (changed k d less)
    | inr more ↦
        let same : i ≡ k = omega arith in
        let old : get_or ys i e ≡ get_or xs i d = get_or_default ys i e d within ∙ rest i d (omega arith) in
        let now : R (get_or xs i d) (get_or (set ys i v) i d) = subst (λ (y : E). R (get_or xs i d) y) (sym (get_or-set_same ys i v d within)) (subst (λ (x : E). R x v) old here) in
        subst (λ (n : ℕ). R (get_or xs n d) (get_or (set ys i v) n d)) same now
  ]

  -- Setting entry i leaves the entries after it as they were.
  pub related_rest : (xs ys : List E) (i : ℕ) (v : E) → ((k : ℕ) (d : E) → i ≤ k → get_or ys k d ≡ get_or xs k d) → (k : ℕ) (d : E) → i + 1 ≤ k → get_or (set ys i v) k d ≡ get_or xs k d
  related_rest xs ys i v rest k d past = get_or-set_other ys i k v d (λ same. omega (arith, same, past)) ∙ rest k d (omega (arith, past))

  -- Two pairs of related lists are related when appended.
  related_append : (xs ys xs' ys' : List E) → AreRelated R xs ys → AreRelated R xs' ys' → AreRelated R (xs ++ xs') (ys ++ ys')
  related_append xs ys xs' ys' one other = record {
    same = rw (length-append ys ys', length-append xs xs', one.same, other.same) refl;
    each = λ k d within. elim (cases_lt k (length xs)) [
      | inl less ↦ subst (λ (p : E × E). R p.0 p.1) (λ j. (sym (get_or_append_left xs xs' d k less) j, sym (get_or_append_left ys ys' d k (rw one.same less)) j)) (one.each k d less)
      | inr more ↦
          let inner : k - length xs < length xs' = omega (arith, within, more, length-append xs xs') in
          subst (λ (p : E × E). R p.0 p.1) (λ j. (sym (get_or-append_right xs xs' (length xs) k d refl more) j, sym (get_or-append_right ys ys' (length xs) k d one.same more) j)) (other.each (k - length xs) d inner)
    ];
  }

  -- Cuts without rows are related.
  pub related_none : (table : List E) (cols x y width : ℕ) → AreRelated R (cut_of table cols x y width 0) (cut_of table cols x y width 0)
  unfolding cut_of
  related_none table cols x y width = record { same = refl; each = λ k d within. absurd (omega (arith, within)) }

  module _ (before table : List E) (cols x y width row : ℕ) (run : List E) (inside : LiesIn (length before) cols x y width (suc row)) (long : length run ≡ width)
      (elsewhere : table ≡ with_cut before cols x y width row (cut_of table cols x y width row)) where
    same_length : length table ≡ length before
    same_length = ap length elsewhere ∙ length-with_cut before cols x y width row (cut_of table cols x y width row) (less_high _ _ _ _ _ _ inside)

    last_row : y * cols + row * cols + x + width ≤ length before
    last_row = row_inside _ _ _ _ _ (suc row) row inside (omega arith)

    -- a cut with one row more is the cut and the row that was written
    next_cut : cut_of (overwritten table ((y + row) * cols + x) run) cols x y width (suc row) ≡ cut_of table cols x y width row ++ run
    unfolding cut_of
    next_cut = rw (
      cut_of_overwritten table cols x y width row ((y + row) * cols + x) run inside.across (omega arith) (omega (arith, same_length, last_row)),
      run_of_overwritten table ((y + row) * cols + x) run width long (omega (arith, same_length, last_row)),
    ) refl

    next_related : AreRelated R (cut_of before cols x y width row) (cut_of table cols x y width row) → AreRelated R (take width (drop ((y + row) * cols + x) table)) run
        → AreRelated R (cut_of before cols x y width (suc row)) (cut_of (overwritten table ((y + row) * cols + x) run) cols x y width (suc row))
    unfolding cut_of
    next_related rows last =
        let less : LiesIn (length before) cols x y width row = less_high _ _ _ _ _ _ inside in
        let untouched : drop ((y + row) * cols + x) table ≡ drop ((y + row) * cols + x) before =
        ap (λ (l : List E). drop ((y + row) * cols + x) l) elsewhere ∙ below_put before cols x y width row (cut_of table cols x y width row) ((y + row) * cols + x) less (omega arith) in
        subst (λ (l : List E). AreRelated R (cut_of before cols x y width row ++ take width (drop ((y + row) * cols + x) before)) l) (sym next_cut)
        (related_append (cut_of before cols x y width row) (cut_of table cols x y width row) (take width (drop ((y + row) * cols + x) before)) run rows
        (subst (λ (l : List E). AreRelated R (take width l) run) untouched last))

    next_elsewhere : overwritten table ((y + row) * cols + x) run ≡ with_cut before cols x y width (suc row) (cut_of (overwritten table ((y + row) * cols + x) run) cols x y width (suc row))
    unfolding with_cut
    next_elsewhere =
        let less : LiesIn (length table) cols x y width row = subst (λ (n : ℕ). LiesIn n cols x y width row) (sym same_length) (less_high _ _ _ _ _ _ inside) in
        let cut : List E = cut_of table cols x y width row in
        let full : length cut ≡ row * width = length-cut_of table cols x y width row less in
        let put : with_cut before cols x y width row (cut ++ run) ≡ table = with_cut_append before cols x y width row cut run (omega (arith, full)) ∙ sym elsewhere in
        rw (next_cut, put, drop_at cut run (row * width) full, take_all width run (omega (arith, long))) refl

    -- what a loop over rows keeps holds after one row more
    pub next_row : (from next : ℕ) (after : List E) → from ≡ (y + row) * cols + x → next ≡ suc row → after ≡ overwritten table from run
        → AreRelated R (cut_of before cols x y width row) (cut_of table cols x y width row) → AreRelated R (take width (drop from table)) run
        → AreRelated R (cut_of before cols x y width next) (cut_of after cols x y width next) × (after ≡ with_cut before cols x y width next (cut_of after cols x y width next))
    next_row from next after place step is rows last =
        let P : ℕ → List E → Type 0 = λ n l. AreRelated R (cut_of before cols x y width n) (cut_of l cols x y width n) × (l ≡ with_cut before cols x y width n (cut_of l cols x y width n)) in
        let placed : after ≡ overwritten table ((y + row) * cols + x) run = is ∙ ap (λ (n : ℕ). overwritten table n run) place in
        let last' : AreRelated R (take width (drop ((y + row) * cols + x) table)) run = subst (λ (n : ℕ). AreRelated R (take width (drop n table)) run) place last in
        subst (λ (n : ℕ). P n after) (sym step) (subst (λ (l : List E). P (suc row) l) (sym placed) (next_related rows last', next_elsewhere))

-- Facts that hold of each entry of a rectangle.
module _ {E : Type 0} (P : E → Type 0) where
  -- What holds of all elements of two lists holds of all of the first one.
  All-front : (xs ys : List E) → All P (xs ++ ys) → All P xs
  All-front xs ys each = subst (λ (l : List E). All P l) (take_at xs ys (length xs) refl) (All-take P (length xs) (xs ++ ys) each)

  -- What holds of all elements of two lists holds of all of the second one.
  All-back : (xs ys : List E) → All P (xs ++ ys) → All P ys
  All-back xs ys each = subst (λ (l : List E). All P l) (drop_at xs ys (length xs) refl) (All-drop P (length xs) (xs ++ ys) each)

  -- what holds of all entries of a cut holds of the entries of one row
  All-row : (table : List E) (cols x y width height row : ℕ) → row < height → All P (cut_of table cols x y width height) → All P (take width (drop ((y + row) * cols + x) table))
  unfolding cut_of
  All-row table cols x y width zero row below each = absurd (omega (arith, below))
  All-row table cols x y width (suc height) row below each =
      let rows : List E = cut_of table cols x y width height in
      let last : List E = take width (drop ((y + height) * cols + x) table) in
      elim (cases_lt row height) [
        | inl less ↦ All-row table cols x y width height row less (All-front rows last each)
        | inr more ↦
            let same : height ≡ row = omega arith in
            subst (λ (n : ℕ). All P (take width (drop ((y + n) * cols + x) table))) same (All-back rows last each)
      ]

  -- what holds of a cut holds of its next row, while only the rows above were changed
  pub All-next_row : (before table : List E) (cols x y width height row from : ℕ) → LiesIn (length before) cols x y width height → row < height → from ≡ (y + row) * cols + x
      → table ≡ with_cut before cols x y width row (cut_of table cols x y width row) → All P (cut_of before cols x y width height) → All P (take width (drop from table))
  All-next_row before table cols x y width height row from inside below place elsewhere each =
      let less : LiesIn (length before) cols x y width row = record { across = inside.across; down = omega (arith, inside.down, mul-le (y + row) cols (y + height) cols (omega arith) (omega arith)) } in
      let untouched : drop from table ≡ drop ((y + row) * cols + x) before =
      ap (λ (n : ℕ). drop n table) place ∙ (ap (λ (l : List E). drop ((y + row) * cols + x) l) elsewhere
      ∙ below_put before cols x y width row (cut_of table cols x y width row) ((y + row) * cols + x) less (omega arith)) in
      subst (λ (l : List E). All P (take width l)) (sym untouched) (All-row before cols x y width height row below each)
