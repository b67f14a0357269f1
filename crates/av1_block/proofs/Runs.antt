-- A list with a run of entries written over.
use Rattle.std.proofs.Common.{◌≡◌, ℕ, ◌+◌, ◌-◌, ◌<◌, ◌≤◌, ◌⊎◌, List, ◌++◌, length, take, drop, get_or, map, refl, sym, ap, ◌∙◌, arith, length-append, length-drop}
use Rattle.std.proofs.lemmas.List.{length-take, length-take-le, length-map, take-map, drop-map, map-append, get_or_append_left, get_or-append_right, get_or-take, get_or-drop, take-append-drop, take-append-le, drop-append-le, drop_at, drop-drop, take_at, same_lists, places}
use Rattle.av1_block.specs.Cut.{overwritten}

module _ {E : Type 0} where
  -- Writing a run over a list keeps the list's length.
  pub length-overwritten : (xs : List E) (i : ℕ) (run : List E) → i + length run ≤ length xs → length (overwritten xs i run) ≡ length xs
  length-overwritten xs i run fits = simp (length-append, length-take, length-drop) (omega arith)

  -- An entry before a run that is written stays.
  pub overwritten_before : (xs : List E) (i : ℕ) (run : List E) (k : ℕ) (d : E) → i ≤ length xs → k < i → get_or (overwritten xs i run) k d ≡ get_or xs k d
  overwritten_before xs i run k d fits before = get_or_append_left (take i xs) (run ++ drop (length run) (drop i xs)) d k (rw (length-take-le i xs fits) before) ∙ get_or-take i xs k d before

  -- An entry inside a run that is written is the run's.
  pub overwritten_within : (xs : List E) (i : ℕ) (run : List E) (k : ℕ) (d : E) → i ≤ length xs → i ≤ k → k < i + length run → get_or (overwritten xs i run) k d ≡ get_or run (k - i) d
  overwritten_within xs i run k d fits from within =
      get_or-append_right (take i xs) (run ++ drop (length run) (drop i xs)) i k d (length-take-le i xs fits) from ∙ get_or_append_left run (drop (length run) (drop i xs)) d (k - i) (omega arith)

  -- An entry after a run that is written stays.
  pub overwritten_after : (xs : List E) (i : ℕ) (run : List E) (k : ℕ) (d : E) → i ≤ length xs → i + length run ≤ k → get_or (overwritten xs i run) k d ≡ get_or xs k d
  overwritten_after xs i run k d fits after =
      let place : i + (length run + (k - i - length run)) ≡ k = omega arith in
      get_or-append_right (take i xs) (run ++ drop (length run) (drop i xs)) i k d (length-take-le i xs fits) (omega arith)
      ∙ (get_or-append_right run (drop (length run) (drop i xs)) (length run) (k - i) d refl (omega arith)
      ∙ (get_or-drop (length run) (drop i xs) (k - i - length run) d ∙ (get_or-drop i xs (length run + (k - i - length run)) d ∙ ap (λ n. get_or xs n d) place)))

  -- writing a run where it was read changes nothing
  pub overwritten_same : (xs : List E) (i width : ℕ) → i + width ≤ length xs → overwritten xs i (take width (drop i xs)) ≡ xs
  overwritten_same xs i width fits =
      let long : length (take width (drop i xs)) ≡ width = simp (length-take, length-drop) (omega arith) in
      rw (long, take-append-drop width (drop i xs)) (take-append-drop i xs)

  -- a run that was written is read again
  pub run_of_overwritten : (xs : List E) (i : ℕ) (run : List E) (width : ℕ) → length run ≡ width → i ≤ length xs → take width (drop i (overwritten xs i run)) ≡ run
  run_of_overwritten xs i run width long fits =
      rw (drop_at (take i xs) (run ++ drop (length run) (drop i xs)) i (length-take-le i xs fits)) (take_at run (drop (length run) (drop i xs)) width long)

  -- a run inside the first of two lists is a run of both
  pub run_of_append : (xs ys : List E) (j width : ℕ) → j + width ≤ length xs → take width (drop j (xs ++ ys)) ≡ take width (drop j xs)
  run_of_append xs ys j width fits = rw (drop-append-le j xs ys (omega arith)) (take-append-le width (drop j xs) ys (rw (length-drop j xs) (omega arith)))

  -- entries that end before a written run stay
  pub run_before_overwritten : (xs : List E) (i : ℕ) (run : List E) (j width : ℕ) → j + width ≤ i → i ≤ length xs → take width (drop j (overwritten xs i run)) ≡ take width (drop j xs)
  run_before_overwritten xs i run j width before fits =
      let long : length (take i xs) ≡ i = length-take-le i xs fits in
      run_of_append (take i xs) (run ++ drop (length run) (drop i xs)) j width (rw long before)
      ∙ (sym (run_of_append (take i xs) (drop i xs) j width (rw long before)) ∙ ap (λ (l : List E). take width (drop j l)) (take-append-drop i xs))

  -- entries that follow a written run stay
  pub drop_after_overwritten : (xs : List E) (i : ℕ) (run : List E) (j : ℕ) → i + length run ≤ j → i ≤ length xs → drop j (overwritten xs i run) ≡ drop j xs
  drop_after_overwritten xs i run j after fits =
      let place : i + (length run + (j - i - length run)) ≡ j = omega arith in
      let rest : List E = drop (length run) (drop i xs) in
      rw (
        ← place,
        ← drop-drop (length run + (j - i - length run)) i (overwritten xs i run),
        ← drop-drop (length run + (j - i - length run)) i xs,
        drop_at (take i xs) (run ++ rest) i (length-take-le i xs fits),
        ← drop-drop (j - i - length run) (length run) (run ++ rest),
        ← drop-drop (j - i - length run) (length run) (drop i xs),
        drop_at run rest (length run) refl,
      ) refl

  -- runs that share no place may be written in either order
  pub overwritten_comm : (xs : List E) (i : ℕ) (run : List E) (j : ℕ) (run' : List E) → i + length run ≤ length xs → j + length run' ≤ length xs → (i + length run ≤ j) ⊎ (j + length run' ≤ i)
      → overwritten (overwritten xs i run) j run' ≡ overwritten (overwritten xs j run') i run
  overwritten_comm xs i run j run' fits fits' apart =
      let first : length (overwritten xs i run) ≡ length xs = length-overwritten xs i run fits in
      let second : length (overwritten xs j run') ≡ length xs = length-overwritten xs j run' fits' in
      same_lists _ _
      (length-overwritten (overwritten xs i run) j run' (rw first fits') ∙ (first ∙ sym (length-overwritten (overwritten xs j run') i run (rw second fits) ∙ second)))
      (λ k d h. grind (arith, places))

module _ {E D : Type 0} (f : E → D) where
  -- Mapping a list with a run written over it is writing the mapped run over the mapped list.
  pub map-overwritten : (xs : List E) (i : ℕ) (run : List E) → map f (overwritten xs i run) ≡ overwritten (map f xs) i (map f run)
  map-overwritten xs i run = rw (map-append f (take i xs) (run ++ drop (length run) (drop i xs)), map-append f run (drop (length run) (drop i xs)), ← drop-map f (length run) (drop i xs), ← drop-map f i xs, ← take-map f i xs, length-map run f) refl
