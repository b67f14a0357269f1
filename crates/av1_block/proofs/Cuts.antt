-- Rectangles of a table that is stored row by row.
use Rattle.std.proofs.Common.{◌≡◌, ℕ, zero, suc, ◌+◌, ◌-◌, ◌*◌, ◌<◌, ◌≤◌, ◌⊎◌, List, [], ◌++◌, length, take, drop, get_or, map, refl, ap, ◌∙◌, inl, inr, subst, arith, add-one, length-append, length-drop}
use Rattle.std.proofs.lemmas.Bool.{cases_lt, cases_order}
use Rattle.std.proofs.lemmas.Nat.{mul-le, mul-add-lt}
use Rattle.std.proofs.lemmas.List.{length-take, take-map, drop-map, map-append, get_or_append_left, get_or-append_right, get_or-take, get_or-drop}
use Rattle.av1_block.specs.Cut.{LiesIn, cut_of, overwritten, with_cut}
use Rattle.av1_block.proofs.Runs.{length-overwritten, overwritten_before, overwritten_within, overwritten_after, map-overwritten}

-- a cut of a rectangle without rows is empty
pub cut_of-zero : {E : Type 0} (table : List E) (cols x y width : ℕ) → cut_of table cols x y width 0 ≡ []
unfolding cut_of
cut_of-zero table cols x y width = refl

-- One row more in a rectangle adds one row of entries to the cut.
pub cut_of-add_one : {E : Type 0} (table : List E) (cols x y width height : ℕ) → cut_of table cols x y width (height + 1) ≡ cut_of table cols x y width height ++ take width (drop ((y + height) * cols + x) table)
unfolding cut_of
cut_of-add_one table cols x y width height = rw add-one refl

-- A rectangle without rows leaves the table as it is.
pub with_cut-zero : {E : Type 0} (table : List E) (cols x y width : ℕ) (entries : List E) → with_cut table cols x y width 0 entries ≡ table
unfolding with_cut
with_cut-zero table cols x y width entries = refl

-- One row more in a rectangle writes one row more into the table.
pub with_cut-add_one : {E : Type 0} (table : List E) (cols x y width height : ℕ) (entries : List E) → with_cut table cols x y width (height + 1) entries ≡ overwritten (with_cut table cols x y width height entries) ((y + height) * cols + x) (take width (drop (height * width) entries))
unfolding with_cut
with_cut-add_one table cols x y width height entries = rw add-one refl

-- each row of the rectangle ends in the table
pub row_inside : (n cols x y width height j : ℕ) → LiesIn n cols x y width height → j < height → y * cols + j * cols + x + width ≤ n
row_inside n cols x y width height j inside below = omega (arith, mul-le (y + j + 1) cols (y + height) cols (omega arith) (omega arith))

-- a rectangle in a table has no more places than the table has entries
pub area_inside : (n cols x y width height : ℕ) → LiesIn n cols x y width height → width * height ≤ n
area_inside n cols x y width height inside = omega (arith, mul-le width height cols (y + height) (omega arith) (omega arith))

-- a run of `width` entries from a row of the rectangle on
pub length_row : {E : Type 0} (xs : List E) (width i : ℕ) → i + width ≤ length xs → length (take width (drop i xs)) ≡ width
length_row xs width i inside = simp (length-take, length-drop) (omega arith)

-- a rectangle that lies in a table lies there without its last row
pub less_high : (n cols x y width height : ℕ) → LiesIn n cols x y width (suc height) → LiesIn n cols x y width height
less_high n cols x y width height inside = record { across = inside.across; down = omega (arith, inside.down, mul-le (y + height) cols (y + suc height) cols (omega arith) (omega arith)) }

-- A cut has as many entries as its rectangle has places.
pub length-cut_of : {E : Type 0} (table : List E) (cols x y width height : ℕ) → LiesIn (length table) cols x y width height → length (cut_of table cols x y width height) ≡ height * width
unfolding cut_of
length-cut_of table cols x y width zero inside = omega arith
length-cut_of table cols x y width (suc height) inside =
    let below : LiesIn (length table) cols x y width height = less_high _ _ _ _ _ _ inside in
    let row : y * cols + height * cols + x + width ≤ length table = row_inside _ _ _ _ _ (suc height) height inside (omega arith) in
    rw (length-append, length-cut_of table cols x y width height below, length_row table width ((y + height) * cols + x) (omega (arith, row))) (omega arith)

pub ruleset cuts = (cut_of-zero, cut_of-add_one, with_cut-zero, with_cut-add_one, row_inside, area_inside)

-- at most `width` entries are written in each row
pub length_part : {E : Type 0} (xs : List E) (width i : ℕ) → length (take width (drop i xs)) ≤ width
length_part xs width i = simp (length-take, length-drop) (omega arith)

-- Writing entries into a rectangle keeps the length of the table.
pub length-with_cut : {E : Type 0} (table : List E) (cols x y width height : ℕ) (entries : List E) → LiesIn (length table) cols x y width height → length (with_cut table cols x y width height entries) ≡ length table
unfolding with_cut
length-with_cut table cols x y width zero entries inside = refl
length-with_cut table cols x y width (suc height) entries inside =
    let before : length (with_cut table cols x y width height entries) ≡ length table = length-with_cut table cols x y width height entries (less_high _ _ _ _ _ _ inside) in
    let row : y * cols + height * cols + x + width ≤ length table = row_inside _ _ _ _ _ (suc height) height inside (omega arith) in
    length-overwritten (with_cut table cols x y width height entries) ((y + height) * cols + x) (take width (drop (height * width) entries)) (omega (arith, before, row, length_part entries width (height * width))) ∙ before

-- a cut holds what stands in its rectangle
module _ {E : Type 0} (table : List E) (cols x y width : ℕ) (i : ℕ) (d : E) (in_row : i < width) where
  -- The rows of a cut before its last one have width entries each.
  last_of_cut : (height : ℕ) → length (cut_of table cols x y width height) ≡ height * width
      → get_or (cut_of table cols x y width (suc height)) (height * width + i) d ≡ get_or table ((y + height) * cols + x + i) d
  unfolding cut_of
  last_of_cut height long =
      let place : height * width + i - height * width ≡ i = omega arith in
      get_or-append_right (cut_of table cols x y width height) (take width (drop ((y + height) * cols + x) table)) (height * width) (height * width + i) d long (omega arith)
      ∙ (ap (λ n. get_or (take width (drop ((y + height) * cols + x) table)) n d) place
      ∙ (get_or-take width (drop ((y + height) * cols + x) table) i d in_row ∙ get_or-drop ((y + height) * cols + x) table i d))

  -- Entry j of a cut is the table's entry at the place that j stands for.
  pub cut_of_inside : (height j : ℕ) → LiesIn (length table) cols x y width height → j < height
      → get_or (cut_of table cols x y width height) (j * width + i) d ≡ get_or table ((y + j) * cols + x + i) d
  unfolding cut_of
  cut_of_inside zero j inside in_rows = absurd (omega (arith, in_rows))
  cut_of_inside (suc height) j inside in_rows =
      let below : LiesIn (length table) cols x y width height = less_high _ _ _ _ _ _ inside in
      let long : length (cut_of table cols x y width height) ≡ height * width = length-cut_of table cols x y width height below in
      elim (cases_lt j height) [
        | inl less ↦
            get_or_append_left (cut_of table cols x y width height) (take width (drop ((y + height) * cols + x) table)) d (j * width + i) (omega (arith, long, mul-add-lt j width i height less in_row))
            ∙ cut_of_inside height j below less
        | inr more ↦
            let same : height ≡ j = omega arith in
            subst (λ (n : ℕ). get_or (cut_of table cols x y width (suc height)) (n * width + i) d ≡ get_or table ((y + n) * cols + x + i) d) same (last_of_cut height long)
      ]

-- Rows of a rectangle are written one after another, and no place is written twice.
module _ {E : Type 0} (table : List E) (cols x y width : ℕ) (entries : List E) (d : E) where
  -- The last row of a put has the entries given for it.
  last_of_put : (height i : ℕ) → LiesIn (length table) cols x y width (suc height) → suc height * width ≤ length entries → i < width
      → get_or (with_cut table cols x y width (suc height) entries) ((y + height) * cols + x + i) d ≡ get_or entries (height * width + i) d
  unfolding with_cut
  last_of_put height i inside full in_row =
      let before : length (with_cut table cols x y width height entries) ≡ length table = length-with_cut table cols x y width height entries (less_high _ _ _ _ _ _ inside) in
      let row : y * cols + height * cols + x + width ≤ length table = row_inside _ _ _ _ _ (suc height) height inside (omega arith) in
      let long : length (take width (drop (height * width) entries)) ≡ width = length_row entries width (height * width) (omega (arith, full)) in
      let place : (y + height) * cols + x + i - ((y + height) * cols + x) ≡ i = omega arith in
      overwritten_within (with_cut table cols x y width height entries) ((y + height) * cols + x) (take width (drop (height * width) entries)) ((y + height) * cols + x + i) d (omega (arith, before, row)) (omega arith) (omega (arith, long, in_row))
      ∙ (ap (λ n. get_or (take width (drop (height * width) entries)) n d) place
      ∙ (get_or-take width (drop (height * width) entries) i d in_row ∙ get_or-drop (height * width) entries i d))

  -- an entry outside every row of a rectangle stays when the rectangle is written
  pub with_cut_elsewhere : (height k : ℕ) → LiesIn (length table) cols x y width height → ((j : ℕ) → j < height → (k < (y + j) * cols + x) ⊎ ((y + j) * cols + x + width ≤ k))
      → get_or (with_cut table cols x y width height entries) k d ≡ get_or table k d
  unfolding with_cut
  with_cut_elsewhere zero k inside outside = refl
  with_cut_elsewhere (suc height) k inside outside =
      let before : length (with_cut table cols x y width height entries) ≡ length table = length-with_cut table cols x y width height entries (less_high _ _ _ _ _ _ inside) in
      let row : y * cols + height * cols + x + width ≤ length table = row_inside _ _ _ _ _ (suc height) height inside (omega arith) in
      let rest : get_or (with_cut table cols x y width height entries) k d ≡ get_or table k d = with_cut_elsewhere height k (less_high _ _ _ _ _ _ inside) (λ j less. outside j (omega (arith, less))) in
      let short : length (take width (drop (height * width) entries)) ≤ width = length_part entries width (height * width) in
      elim (outside height (omega arith)) [
        | inl under ↦ overwritten_before (with_cut table cols x y width height entries) ((y + height) * cols + x) (take width (drop (height * width) entries)) k d (omega (arith, before, row)) under ∙ rest
        | inr over ↦ overwritten_after (with_cut table cols x y width height entries) ((y + height) * cols + x) (take width (drop (height * width) entries)) k d (omega (arith, before, row)) (omega (arith, short, over)) ∙ rest
      ]

  -- an entry inside a rectangle is the one that was written there
  pub with_cut_inside : (height i j : ℕ) → LiesIn (length table) cols x y width height → height * width ≤ length entries → i < width → j < height
      → get_or (with_cut table cols x y width height entries) ((y + j) * cols + x + i) d ≡ get_or entries (j * width + i) d
  unfolding with_cut
  with_cut_inside zero i j inside full in_row in_rows = absurd (omega (arith, in_rows))
  with_cut_inside (suc height) i j inside full in_row in_rows =
      let before : length (with_cut table cols x y width height entries) ≡ length table = length-with_cut table cols x y width height entries (less_high _ _ _ _ _ _ inside) in
      let row : y * cols + height * cols + x + width ≤ length table = row_inside _ _ _ _ _ (suc height) height inside (omega arith) in
      elim (cases_lt j height) [
        | inl less ↦
            let higher : (y + j + 1) * cols ≤ (y + height) * cols = mul-le (y + j + 1) cols (y + height) cols (omega arith) (omega arith) in
            overwritten_before (with_cut table cols x y width height entries) ((y + height) * cols + x) (take width (drop (height * width) entries)) ((y + j) * cols + x + i) d
            (omega (arith, before, row)) (omega (arith, higher, inside.across, in_row))
            ∙ with_cut_inside height i j (less_high _ _ _ _ _ _ inside) (omega (arith, full)) in_row less
        | inr more ↦
            let same : height ≡ j = omega arith in
            subst (λ (n : ℕ). get_or (with_cut table cols x y width (suc height) entries) ((y + n) * cols + x + i) d ≡ get_or entries (n * width + i) d) same (last_of_put height i inside full in_row)
      ]

-- a place in one row, and a run of another row or of other columns
pub row_apart : (cols x width u v row : ℕ) → x + width ≤ cols → u < cols → (u < x) ⊎ ((x + width ≤ u) ⊎ ((v < row) ⊎ (row < v)))
    → (v * cols + u < row * cols + x) ⊎ (row * cols + x + width ≤ v * cols + u)
row_apart cols x width u v row across in_cols apart = elim (cases_order v row) [
  | inl same ↦
      let level : v * cols ≡ row * cols = ap (λ n. n * cols) same in
      elim apart [
        | inl left ↦ inl (omega (arith, level, left))
        | inr rest ↦ elim rest [ inl right ↦ inr (omega (arith, level, right)) | inr other ↦ elim other [ inl less ↦ absurd (omega (arith, less, same)) | inr more ↦ absurd (omega (arith, more, same)) ] ]
      ]
  | inr other ↦ elim other [
    | inl less ↦ inl (omega (arith, mul-le (v + 1) cols row cols (omega (arith, less)) (omega arith)))
    | inr more ↦ inr (omega (arith, mul-le (row + 1) cols v cols (omega (arith, more)) (omega arith)))
  ]
]

-- an entry outside a rectangle stays when the rectangle is written
pub with_cut_outside : {E : Type 0} (table : List E) (cols x y width height : ℕ) (entries : List E) (u v : ℕ) (d : E) → LiesIn (length table) cols x y width height → u < cols
    → (u < x) ⊎ ((x + width ≤ u) ⊎ ((v < y) ⊎ (y + height ≤ v)))
    → get_or (with_cut table cols x y width height entries) (v * cols + u) d ≡ get_or table (v * cols + u) d
with_cut_outside table cols x y width height entries u v d inside in_cols outside =
    with_cut_elsewhere table cols x y width entries d height (v * cols + u) inside
    (λ j less. row_apart cols x width u v (y + j) inside.across in_cols (elim outside [
      | inl left ↦ inl left
      | inr rest ↦ elim rest [ inl right ↦ inr (inl right) | inr other ↦ elim other [ inl above ↦ inr (inr (inl (omega (arith, above)))) | inr under ↦ inr (inr (inr (omega (arith, under, less)))) ] ]
    ]))

-- Cuts of mapped tables.
module _ {E D : Type 0} (f : E → D) where
  -- Mapping a cut is cutting the mapped table.
  pub map_cut_of : (table : List E) (cols x y width height : ℕ) → map f (cut_of table cols x y width height) ≡ cut_of (map f table) cols x y width height
  unfolding cut_of
  map_cut_of table cols x y width zero = refl
  map_cut_of table cols x y width (suc height) =
      rw (map-append f (cut_of table cols x y width height) (take width (drop ((y + height) * cols + x) table)), map_cut_of table cols x y width height, ← take-map f width (drop ((y + height) * cols + x) table), ← drop-map f ((y + height) * cols + x) table) refl

  -- Mapping a put is putting mapped entries into the mapped table.
  pub map_with_cut : (table : List E) (cols x y width height : ℕ) (entries : List E) → map f (with_cut table cols x y width height entries) ≡ with_cut (map f table) cols x y width height (map f entries)
  unfolding with_cut
  map_with_cut table cols x y width zero entries = refl
  map_with_cut table cols x y width (suc height) entries =
      map-overwritten f (with_cut table cols x y width height entries) ((y + height) * cols + x) (take width (drop (height * width) entries))
      ∙ rw (map_with_cut table cols x y width height entries, ← take-map f width (drop (height * width) entries), ← drop-map f (height * width) entries) refl
