-- Taking and putting cuts of one table.
use Rattle.std.proofs.Common.{◌≡◌, ℕ, zero, suc, ◌+◌, ◌*◌, ◌<◌, ◌≤◌, ◌⊎◌, List, ◌++◌, length, take, drop, max, refl, sym, ap, ◌∙◌, inl, inr, arith}
use Rattle.std.proofs.Math.Seq.{take-add}
use Rattle.std.proofs.lemmas.Bool.{cases_lt, cases_order}
use Rattle.std.proofs.lemmas.Nat.{mul-le}
use Rattle.std.proofs.Math.Nat.{eq-zero-or-pos}
use Rattle.std.proofs.lemmas.List.{take_all, drop_at, take-append-drop}
use Rattle.av1_plane.specs.declared.tile_rect.TileRect.{TileRect}
use Rattle.av1_block.specs.Cut.{LiesIn, LiesInTable, cut_of, overwritten, with_cut, put_at, AreApart}
use Rattle.av1_block.specs.Laws.{PutOfCutIsSame, CutOfPutIsPut, PutsCommute}
use Rattle.av1_block.proofs.Runs.{overwritten_same, overwritten_comm, run_of_append, run_of_overwritten, run_before_overwritten}
use Rattle.av1_block.proofs.Cuts.{less_high, row_inside, length_row, length_part, length-cut_of, length-with_cut}

module _ {E : Type 0} where
  -- entries past a rectangle's places aren't written
  pub with_cut_append : (table : List E) (cols x y width height : ℕ) (entries more : List E) → height * width ≤ length entries
      → with_cut table cols x y width height (entries ++ more) ≡ with_cut table cols x y width height entries
  unfolding with_cut
  with_cut_append table cols x y width zero entries more full = refl
  with_cut_append table cols x y width (suc height) entries more full =
      rw (with_cut_append table cols x y width height entries more (omega (arith, full)), run_of_append entries more (height * width) width (omega (arith, full))) refl

  -- Putting the entries of a rectangle back into it changes nothing.
  pub put_same : (table : List E) (cols x y width height : ℕ) → LiesIn (length table) cols x y width height → with_cut table cols x y width height (cut_of table cols x y width height) ≡ table
  unfolding cut_of with_cut
  put_same table cols x y width zero inside = refl
  put_same table cols x y width (suc height) inside =
      let below : LiesIn (length table) cols x y width height = less_high _ _ _ _ _ _ inside in
      let row : y * cols + height * cols + x + width ≤ length table = row_inside _ _ _ _ _ (suc height) height inside (omega arith) in
      let long : length (cut_of table cols x y width height) ≡ height * width = length-cut_of table cols x y width height below in
      rw (
        with_cut_append table cols x y width height (cut_of table cols x y width height) (take width (drop ((y + height) * cols + x) table)) (omega (arith, long)),
        put_same table cols x y width height below,
        drop_at (cut_of table cols x y width height) (take width (drop ((y + height) * cols + x) table)) (height * width) long,
        take_all width (take width (drop ((y + height) * cols + x) table)) (length_part table width ((y + height) * cols + x)),
      )
      (overwritten_same table ((y + height) * cols + x) width (omega (arith, row)))

  -- a run that is written below a rectangle doesn't change its cut
  pub cut_of_overwritten : (table : List E) (cols x y width height i : ℕ) (run : List E) → x + width ≤ cols → (y + height) * cols ≤ i → i ≤ length table
      → cut_of (overwritten table i run) cols x y width height ≡ cut_of table cols x y width height
  unfolding cut_of
  cut_of_overwritten table cols x y width zero i run across before fits = refl
  cut_of_overwritten table cols x y width (suc height) i run across before fits =
      rw (cut_of_overwritten table cols x y width height i run across (omega (arith, before)) fits, run_before_overwritten table i run ((y + height) * cols + x) width (omega (arith, before, across)) fits) refl

  -- Cutting a rectangle out after entries were put into it gives the entries' front.
  take_put : (table : List E) (cols x y width height : ℕ) (entries : List E) → LiesIn (length table) cols x y width height → height * width ≤ length entries
      → cut_of (with_cut table cols x y width height entries) cols x y width height ≡ take (height * width) entries
  unfolding cut_of with_cut
  take_put table cols x y width zero entries inside full = let none : 0 * width ≡ 0 = omega arith in rw none refl
  take_put table cols x y width (suc height) entries inside full =
      let below : LiesIn (length table) cols x y width height = less_high _ _ _ _ _ _ inside in
      let same : length (with_cut table cols x y width height entries) ≡ length table = length-with_cut table cols x y width height entries below in
      let row : y * cols + height * cols + x + width ≤ length table = row_inside _ _ _ _ _ (suc height) height inside (omega arith) in
      let long : length (take width (drop (height * width) entries)) ≡ width = length_row entries width (height * width) (omega (arith, full)) in
      let area : suc height * width ≡ height * width + width = omega arith in
      rw (
        cut_of_overwritten (with_cut table cols x y width height entries) cols x y width height ((y + height) * cols + x) (take width (drop (height * width) entries)) inside.across (omega arith) (omega (arith, same, row)),
        take_put table cols x y width height entries below (omega (arith, full)),
        run_of_overwritten (with_cut table cols x y width height entries) ((y + height) * cols + x) (take width (drop (height * width) entries)) width long (omega (arith, same, row)),
        area,
      )
      (sym (take-add (height * width) width entries))

  -- a put into a rectangle without columns leaves the table as it is
  put_narrow : (table : List E) (cols x y width height : ℕ) (entries : List E) → width ≡ 0 → with_cut table cols x y width height entries ≡ table
  unfolding with_cut
  put_narrow table cols x y width zero entries narrow = refl
  put_narrow table cols x y width (suc height) entries narrow =
      rw (put_narrow table cols x y width height entries narrow, narrow) (take-append-drop ((y + height) * cols + x) table)

  -- a run that no row of the rectangle meets may be written before or after
  with_cut_overwritten : (table : List E) (cols x y width height : ℕ) (entries : List E) (i : ℕ) (run : List E) → LiesIn (length table) cols x y width height → i + length run ≤ length table
      → ((j : ℕ) → j < height → ((y + j) * cols + x + width ≤ i) ⊎ (i + length run ≤ (y + j) * cols + x))
      → with_cut (overwritten table i run) cols x y width height entries ≡ overwritten (with_cut table cols x y width height entries) i run
  unfolding with_cut
  with_cut_overwritten table cols x y width zero entries i run inside fits apart = refl
  with_cut_overwritten table cols x y width (suc height) entries i run inside fits apart =
      let below : LiesIn (length table) cols x y width height = less_high _ _ _ _ _ _ inside in
      let same : length (with_cut table cols x y width height entries) ≡ length table = length-with_cut table cols x y width height entries below in
      let row : y * cols + height * cols + x + width ≤ length table = row_inside _ _ _ _ _ (suc height) height inside (omega arith) in
      let short : length (take width (drop (height * width) entries)) ≤ width = length_part entries width (height * width) in
      rw (with_cut_overwritten table cols x y width height entries i run below fits (λ j less. apart j (omega (arith, less))))
      (overwritten_comm (with_cut table cols x y width height entries) i run ((y + height) * cols + x) (take width (drop (height * width) entries)) (omega (arith, same, fits)) (omega (arith, same, row, short))
      (elim (apart height (omega arith)) [ inl before ↦ inr (omega (arith, short, before)) | inr after ↦ inl after ]))

-- two runs in different rows or in different columns share no place
rows_apart : (cols x width x' width' row row' : ℕ) → x + width ≤ cols → x' + width' ≤ cols → (row ≡ row' → (x + width ≤ x') ⊎ (x' + width' ≤ x))
    → (row * cols + x + width ≤ row' * cols + x') ⊎ (row' * cols + x' + width' ≤ row * cols + x)
rows_apart cols x width x' width' row row' across across' columns = elim (cases_order row row') [
  | inl same ↦
      let level : row * cols ≡ row' * cols = ap (λ n. n * cols) same in
      elim (columns same) [ inl before ↦ inl (omega (arith, level, before)) | inr after ↦ inr (omega (arith, level, after)) ]
  | inr other ↦ elim other [
    | inl less ↦ inl (omega (arith, mul-le (row + 1) cols row' cols (omega (arith, less)) (omega arith)))
    | inr more ↦ inr (omega (arith, mul-le (row' + 1) cols row cols (omega (arith, more)) (omega arith)))
  ]
]

-- in a row of both, rectangles with no place in common have other columns
columns_apart : (a b : TileRect) → AreApart a b → 0 < a.width → 0 < b.width → (v : ℕ) → a.y ≤ v → v < a.y + a.height → b.y ≤ v → v < b.y + b.height
    → (a.x + a.width ≤ b.x) ⊎ (b.x + b.width ≤ a.x)
columns_apart a b apart wide wide' v top bottom top' bottom' = elim (cases_lt b.x (a.x + a.width)) [
  | inr before ↦ inl before
  | inl less ↦ elim (cases_lt a.x (b.x + b.width)) [
    | inr after ↦ inr after
    | inl less' ↦ absurd (apart (max a.x b.x) v
        (record { left = omega arith; right = omega (arith, less, wide); top = top; bottom = bottom })
        (record { left = omega arith; right = omega (arith, less', wide'); top = top'; bottom = bottom' }))
  ]
]

module _ {E : Type 0} (table : List E) (cols : ℕ) (one other : TileRect) (ones others : List E) (inside : LiesInTable (length table) cols one) (apart : AreApart one other) (wide : 0 < one.width) (wide' : 0 < other.width) where
  -- Rows put into one rectangle, one after another, commute with a put into another rectangle.
  puts_comm : (height : ℕ) → height ≤ other.height → LiesIn (length table) cols other.x other.y other.width height
      → with_cut (put_at table cols one ones) cols other.x other.y other.width height others ≡ put_at (with_cut table cols other.x other.y other.width height others) cols one ones
  unfolding with_cut
  puts_comm zero low inside' = refl
  puts_comm (suc height) low inside' =
      let below : LiesIn (length table) cols other.x other.y other.width height = less_high _ _ _ _ _ _ inside' in
      let same : length (with_cut table cols other.x other.y other.width height others) ≡ length table = length-with_cut table cols other.x other.y other.width height others below in
      let row : other.y * cols + height * cols + other.x + other.width ≤ length table = row_inside _ _ _ _ _ (suc height) height inside' (omega arith) in
      let short : length (take other.width (drop (height * other.width) others)) ≤ other.width = length_part others other.width (height * other.width) in
      rw (puts_comm height (omega (arith, low)) below)
      (sym (with_cut_overwritten (with_cut table cols other.x other.y other.width height others) cols one.x one.y one.width one.height ones
      ((other.y + height) * cols + other.x) (take other.width (drop (height * other.width) others)) (rw same inside) (omega (arith, same, row, short))
      (λ j less. elim (rows_apart cols one.x one.width other.x other.width (one.y + j) (other.y + height) inside.across inside'.across
      (λ level. columns_apart one other apart wide wide' (one.y + j) (omega arith) (omega (arith, less)) (omega (arith, level)) (omega (arith, level, low)))) [
        | inl before ↦ inl before
        | inr after ↦ inr (omega (arith, short, after))
      ])))

-- Putting the cut of a rectangle back into its table changes nothing.
pub put_of_cut_is_same : {E : Type 0} → PutOfCutIsSame E
put_of_cut_is_same table cols rect inside = put_same table cols rect.x rect.y rect.width rect.height inside

-- Cutting a rectangle out after entries were put into it gives these entries.
pub cut_of_put_is_put : {E : Type 0} → CutOfPutIsPut E
cut_of_put_is_put table entries cols rect inside full =
    take_put table cols rect.x rect.y rect.width rect.height entries inside (omega (arith, full)) ∙ take_all (rect.height * rect.width) entries (omega (arith, full))

-- Puts into two rectangles without a common place give the same table in either order.
pub puts_commute : {E : Type 0} → PutsCommute E
puts_commute table ones others cols one other inside inside' apart = elim (eq-zero-or-pos one.width) [
  | inl narrow ↦ rw (put_narrow table cols one.x one.y one.width one.height ones narrow, put_narrow (put_at table cols other others) cols one.x one.y one.width one.height ones narrow) refl
  | inr wide ↦ elim (eq-zero-or-pos other.width) [
    | inl narrow' ↦ rw (put_narrow table cols other.x other.y other.width other.height others narrow', put_narrow (put_at table cols one ones) cols other.x other.y other.width other.height others narrow') refl
    | inr wide' ↦ puts_comm table cols one other ones others inside apart wide wide' other.height (omega arith) inside'
  ]
]
