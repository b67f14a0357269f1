-- Recorded rows, one after another, and writing them into a part.
use Rattle.std.proofs.Common.{◌≡◌, ℕ, ℤ, zero, suc, ◌+◌, ◌*◌, ◌<◌, ◌≤◌, ◌==◌, ◌&&◌, List, [], ◌∷◌, ◌++◌, length, map, take, drop, get_or, Vec, Global, Bool, true, false, true≢false, refl, sym, ap, ◌∙◌, arith}
use Rattle.std.specs.List.{list_all}
use Rattle.std.proofs.lemmas.List.{length-map, get_or-map, take_at, drop_at, drop-drop}
use Rattle.std.proofs.lemmas.Bool.Decides.{nat_tests}
use Rattle.av1_block.specs.Cut.{LiesIn, overwritten, with_cut}
use Rattle.av1_block.proofs.Cuts.{with_cut-add_one, row_inside}
use Rattle.av1_block.proofs.Runs.{map-overwritten}
use Rattle.av1_rec.specs.Recorded.{joined}

pub ruleset row_tests = (length-map)

-- Two tests that hold together hold each.
both : (a b : Bool) → (a && b) ≡ true → (a ≡ true) × (b ≡ true)
both true b h = (refl, h)
both false b h = (h, absurd (true≢false (sym h)))

module _ {E : Type 0} (w : ℕ) where
  -- each recorded row has the width of the part inside the plane
  pub row_long : (rs : List (List E)) (y : ℕ) (d : List E) → list_all (λ row. length row == w) rs ≡ true → y < length rs → length (get_or rs y d) ≡ w
  row_long [] y d all below = absurd (omega (arith, below))
  row_long (r ∷ rs) zero d all below = let h = (both (length r == w) _ all).0 in grind (arith, nat_tests)
  row_long (r ∷ rs) (suc y) d all below = row_long rs y d (both (length r == w) _ all).1 (omega (arith, below))

  -- each recorded row stands behind the rows before it in their list
  pub row_of_joined : (rs : List (List E)) (y : ℕ) (d : List E) → list_all (λ row. length row == w) rs ≡ true → y < length rs → take w (drop (y * w) (joined rs)) ≡ get_or rs y d
  row_of_joined [] y d all below = absurd (omega (arith, below))
  row_of_joined (r ∷ rs) zero d all below =
      let none : 0 * w ≡ 0 = omega arith in
      ap (λ (n : ℕ). take w (drop n (r ++ joined rs))) none ∙ take_at r (joined rs) w (row_long (r ∷ rs) zero d all below)
  row_of_joined (r ∷ rs) (suc y) d all below =
      let long : length r ≡ w = row_long (r ∷ rs) zero d all (omega (arith, below)) in
      let place : w + y * w ≡ suc y * w = omega arith in
      ap (λ (n : ℕ). take w (drop n (r ++ joined rs))) (sym place)
      ∙ (ap (take w) (sym (drop-drop (y * w) w (r ++ joined rs)) ∙ ap (drop (y * w)) (drop_at r (joined rs) w long))
      ∙ row_of_joined rs y d (both (length r == w) _ all).1 (omega (arith, below)))

  -- one row more of the recorded rows is written
  pub row_written : (table : List E) (cols y : ℕ) (rs : List (List E)) (d : List E) → list_all (λ row. length row == w) rs ≡ true → y < length rs
      → overwritten (with_cut table cols 0 0 w y (joined rs)) (y * cols) (get_or rs y d) ≡ with_cut table cols 0 0 w (y + 1) (joined rs)
  row_written table cols y rs d all below =
      let place : (0 + y) * cols + 0 ≡ y * cols = omega arith in
      rw (with_cut-add_one table cols 0 0 w y (joined rs), place, row_of_joined rs y d all below) refl

-- row y of some rows of samples, as numbers, and the run of its samples
module _ {T : Type 0} (number : T → ℤ) (rows : List (Vec T Global)) (w y : ℕ) (row : Vec T Global) (run : List T)
    (long : list_all (λ r. length r == w) (map (λ r. map number r.items) rows) ≡ true) (below : y < length rows) (read : row ≡ get_or rows y row) (value : run ≡ row.items) where
  -- The recorded rows as numbers.
  abbrev pub said : List (List ℤ)
  said = map (λ (r : Vec T Global). map number r.items) rows

  -- The row that is written is one of the recorded rows.
  below_said : y < length said
  below_said = omega (arith, below, length-map rows (λ (r : Vec T Global). map number r.items))

  -- The numbers of the run are the recorded row.
  run_is : map number run ≡ get_or said y (map number row.items)
  run_is =
      ap (map number) value
      ∙ (ap (λ (r : Vec T Global). map number r.items) read
      ∙ sym (get_or-map (λ (r : Vec T Global). map number r.items) rows y row (map number row.items) below))

  -- The run is as long as a row inside the plane.
  pub run_long : length run ≡ w
  run_long = sym (length-map run number) ∙ (ap (λ (l : List ℤ). length l) run_is ∙ row_long w said y (map number row.items) long below_said)

  -- The run ends inside the part's entries.
  pub run_fits : (n cols : ℕ) → LiesIn n cols 0 0 w (length rows) → y * cols + length run ≤ n
  run_fits n cols inside = let e : 0 * cols ≡ 0 = omega arith in omega (arith, e, run_long, row_inside n cols 0 0 w (length rows) y inside below)

  -- A written run is a row more of the cut.
  pub run_written : (initial table new : List T) (cols : ℕ) → new ≡ overwritten table (y * cols) run
      → map number table ≡ with_cut (map number initial) cols 0 0 w y (joined said) → map number new ≡ with_cut (map number initial) cols 0 0 w (y + 1) (joined said)
  run_written initial table new cols e so_far =
      ap (map number) e
      ∙ (map-overwritten number table (y * cols) run
      ∙ ((λ i. overwritten (so_far i) (y * cols) (run_is i)) ∙ row_written w (map number initial) cols y said (map number row.items) long below_said))
