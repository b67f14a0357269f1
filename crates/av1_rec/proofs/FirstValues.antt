-- Lists of the values of a function, and tables of the values of a function, row by row.
use Rattle.std.proofs.Common.{◌≡◌, ℕ, zero, suc, ◌+◌, ◌*◌, ◌/◌, ◌%◌, ◌<◌, ◌≤◌, List, [], ◌∷◌, ◌++◌, length, take, map, get_or, ◌⊎◌, inl, inr, ap, refl, sym, ◌∙◌, length-append, arith}
use Rattle.std.proofs.lemmas.Nat.{div-add-mod', div_below, mod_below}
use Rattle.std.proofs.lemmas.List.{ext_get_or, get_or_append_left, get_or_push, map_push}
use Rattle.std.proofs.lemmas.Bool.{cases_lt}
use Rattle.av1_rec.specs.BlockTable.{first_values}

-- A table with a place has a column.
pub some_column : (cols rows i : ℕ) → i < cols * rows → 0 < cols
some_column zero rows i lt = let none : 0 * rows ≡ 0 = omega arith in absurd (omega arith)
some_column (suc cols) rows i lt = omega arith

module _ {A : Type 0} where
  -- There are n first values of a function below n.
  pub first_count : (f : ℕ → A) (n : ℕ) → length (first_values f n) ≡ n
  first_count f zero = refl
  first_count f (suc n) = let e : length (first_values f n) ≡ n = first_count f n in omega (arith, length-append {A = A} (first_values f n) (f n ∷ []))

  -- The first values of a function have its value at i in place i.
  pub first_at : (f : ℕ → A) (n i : ℕ) (d : A) → i < n → get_or (first_values f n) i d ≡ f i
  first_at f zero i d lt = absurd (omega arith)
  first_at f (suc n) i d lt = choose (first_at f n i d) (cases_lt i n)
    where
      choose : (i < n → get_or (first_values f n) i d ≡ f i) → (i < n) ⊎ (n ≤ i) → get_or (first_values f n ++ f n ∷ []) i d ≡ f i
      choose before (inl l) = let c : length (first_values f n) ≡ n = first_count f n in get_or_append_left (first_values f n) (f n ∷ []) d i (omega arith) ∙ before l
      choose before (inr g) = let here : i ≡ n = omega arith in get_or_push (first_values f n) (f n) d i (first_count f n ∙ sym here) ∙ ap f (sym here)

  -- the list that has these entries at all places of a table
  pub by_places : (d : A) (entry : ℕ → ℕ → A) (cols rows : ℕ) (items : List A) → length items ≡ cols * rows
      → ((x y : ℕ) → x < cols → y < rows → get_or items (y * cols + x) d ≡ entry x y) → items ≡ first_values (λ k. entry (k % cols) (k / cols)) (cols * rows)
  by_places d entry cols rows items count f =
      ext_get_or d items (first_values value (cols * rows)) (count ∙ sym (first_count value (cols * rows))) (λ i lt. let within : i < cols * rows = omega arith in at_place i within ∙ sym (first_at value (cols * rows) i d within))
    where
      value : ℕ → A
      value k = entry (k % cols) (k / cols)

      at_place : (i : ℕ) → i < cols * rows → get_or items i d ≡ entry (i % cols) (i / cols)
      at_place i lt =
          let some : 0 < cols = some_column cols rows i lt in
          let column : i % cols < cols = mod_below i cols some in
          let row : i / cols < rows = div_below i cols rows some (omega arith) in
          let place : i ≡ i / cols * cols + i % cols = sym (div-add-mod' i cols) in
          ap (λ n. get_or items n d) place ∙ f (i % cols) (i / cols) column row

  -- as many elements of a list as it has are all of them
  pub all_lines : (xs : List A) (i : ℕ) → length xs ≤ i → take i xs ≡ xs
  all_lines [] zero le = refl
  all_lines [] (suc i) le = refl
  all_lines (x ∷ xs) zero le = absurd (omega arith)
  all_lines (x ∷ xs) (suc i) le = ap (λ (m : List A). x ∷ m) (all_lines xs i (omega arith))

-- one value more of a function is made
pub values_more : {X A : Type 0} (view : X → A) (f : ℕ → A) (items new : List X) (x : X) (n : ℕ) → new ≡ items ++ x ∷ [] → map view items ≡ first_values f n → view x ≡ f n → map view new ≡ first_values f (n + 1)
values_more view f items new x n pushed so_far here =
    let k : suc n ≡ n + 1 = omega arith in
    ap (map view) pushed ∙ map_push view items x ∙ (λ i. so_far i ++ here i ∷ []) ∙ ap (first_values f) k
