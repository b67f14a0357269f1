-- Runs of cells.
use Rattle.std.proofs.Common.{◌≡◌, ℕ, ℤ, pos, ◌+◌, ◌-◌, ◌*◌, ◌<◌, ◌≤◌, List, length, get_or, set, length-set, refl, ◌∙◌, ap, subst, arith, inl, inr, ◌⊎◌, Bool, true, false}
use Rattle.std.specs.Prelude.{if◌then◌else◌}
use Rattle.std.specs.Int.RustNames.{unsigned_abs}
use Rattle.std.proofs.lemmas.Bool.{cases_lt, cases_eq}
use Rattle.std.proofs.lemmas.Bool.Decides.{nat_tests}
use Rattle.std.proofs.lemmas.List.{get_or-set_other}
use Rattle.std.proofs.lemmas.Grind.{get_or-set_at}
use Rattle.av1_cdef.specs.Pad.{missing, HasCellRun, plain_cells, none_cells, side_cells, row_cells, window_cells, HoldsWindow, HasPaddedCells}
use Rattle.av1_cdef.specs.declared.pad.Sides.{Sides}
use Rattle.std.proofs.Math.Nat.{mul-le-mul_right}

-- a run of no cells changes nothing
pub run_none : (at : ℕ) (value : ℕ → ℕ) (xs : List ℕ) → HasCellRun at 0 value xs xs
run_none at value xs = record { long = refl; on = λ k l. absurd (omega arith); off = λ i h. refl }

-- one cell more of a run is written
pub run_more : (at n : ℕ) (value : ℕ → ℕ) (xs ys : List ℕ) (v : ℕ) → at + n < length xs → HasCellRun at n value xs ys → v ≡ value n → HasCellRun at (n + 1) value xs (set ys (at + n) v)
run_more at n value xs ys v l h e = record {
  long = length-set ys (at + n) v ∙ h.long;
  on = λ k lk. elim (cases_eq k n) [
    | inl same ↦ let long = h.long in rw same (get_or-set_at ys (at + n) (at + n) v 0 refl (omega arith) ∙ e)
    | inr other ↦ get_or-set_other ys (at + n) (at + k) v 0 (λ f. other (omega arith)) ∙ h.on k (omega arith)
  ];
  off = λ i f. get_or-set_other ys (at + n) i v 0 (λ g. f n (omega arith) g) ∙ h.off i (λ k lk. f k (omega arith));
}

-- the cell of a sample is the sample's size
pub plain_is : (xs : List ℤ) (from k : ℕ) → unsigned_abs (get_or xs (from + k) (pos 0)) ≡ plain_cells xs from k
unfolding plain_cells
plain_is xs from k = refl

-- the cell of a missing sample is the mark CDEF_VERY_LARGE
pub none_is : (k : ℕ) → 0x8000 ≡ none_cells k
unfolding none_cells
none_is k = refl

pub ruleset runs = (run_none, run_more, plain_is, none_is)

-- three runs of cells, one behind another, are one run
pub runs_joined : (at a b c : ℕ) (f g h value : ℕ → ℕ) (xs ys zs ws : List ℕ) → HasCellRun at a f xs ys → HasCellRun (at + a) b g ys zs → HasCellRun (at + a + b) c h zs ws
    → ((k : ℕ) → k < a → f k ≡ value k) → ((k : ℕ) → k < b → g k ≡ value (a + k)) → ((k : ℕ) → k < c → h k ≡ value (a + b + k)) → HasCellRun at (a + b + c) value xs ws
runs_joined at a b c f g h value xs ys zs ws p q r sf sg sh = record {
  long = r.long ∙ q.long ∙ p.long;
  on = λ k l. elim (cases_lt k a) [
    | inl l1 ↦ r.off (at + k) (λ j lj e. omega arith) ∙ q.off (at + k) (λ j lj e. omega arith) ∙ p.on k l1 ∙ sf k l1
    | inr l1 ↦ elim (cases_lt k (a + b)) [
      | inl l2 ↦
          let j : at + k ≡ at + a + (k - a) = omega arith in
          let back : a + (k - a) ≡ k = omega arith in
          r.off (at + k) (λ j lj e. omega arith) ∙ ap (λ i. get_or zs i 0) j ∙ q.on (k - a) (omega arith) ∙ sg (k - a) (omega arith) ∙ ap value back
      | inr l2 ↦
          let j : at + k ≡ at + a + b + (k - a - b) = omega arith in
          let back : a + b + (k - a - b) ≡ k = omega arith in
          ap (λ i. get_or ws i 0) j ∙ r.on (k - a - b) (omega arith) ∙ sh (k - a - b) (omega arith) ∙ ap value back
    ]
  ];
  off = λ i d. r.off i (λ j lj e. d (a + b + j) (omega arith) (omega arith)) ∙ q.off i (λ j lj e. d (a + j) (omega arith) (omega arith)) ∙ p.off i (λ j lj e. d j (omega arith) e);
}

-- The sides of a row.

-- a side that the plane has is filled with samples
pub side_there : (at from : ℕ) (side : Bool) (xs : List ℤ) (ys zs : List ℕ) → side ≡ true → HasCellRun at 2 (plain_cells xs from) ys zs → HasCellRun at 2 (side_cells xs from side) ys zs
unfolding plain_cells side_cells
side_there at from side xs ys zs e h = rw e record { long = h.long; on = h.on; off = h.off }

-- a side that the plane does not have is filled with marks
pub side_missing : (at from : ℕ) (side : Bool) (xs : List ℤ) (ys zs : List ℕ) → side ≡ false → HasCellRun at 2 none_cells ys zs → HasCellRun at 2 (side_cells xs from side) ys zs
unfolding none_cells side_cells
side_missing at from side xs ys zs e h = rw e record { long = h.long; on = h.on; off = h.off }

pub ruleset sides = (side_there, side_missing)

-- the two cells left of a row are samples or marks
left_is : (xs : List ℤ) (place w : ℕ) (left right : Bool) → (left ≡ true → 2 ≤ place) → (k : ℕ) → k < 2 → side_cells xs (place - 2) left k ≡ row_cells xs place w left right k
unfolding side_cells row_cells
left_is xs place w true right h k l =
    let m : missing k w true right ≡ false = grind (arith, nat_tests) in
    let e : place - 2 + k ≡ place + k - 2 = let p = h refl in omega arith in
    rw (m, e) refl
left_is xs place w false right h k l = let m : missing k w false right ≡ true = grind (arith, nat_tests) in rw m refl

-- the cells of a row between its sides are samples
middle_is : (xs : List ℤ) (place w : ℕ) (left right : Bool) (k : ℕ) → k < w → plain_cells xs place k ≡ row_cells xs place w left right (2 + k)
unfolding plain_cells row_cells
middle_is xs place w left right k l =
    let m : missing (2 + k) w left right ≡ false = grind (arith, nat_tests) in
    let e : place + k ≡ place + (2 + k) - 2 = omega arith in
    rw (m, e) refl

-- the two cells right of a row are samples or marks
right_is : (xs : List ℤ) (place w : ℕ) (left right : Bool) (k : ℕ) → k < 2 → side_cells xs (place + w) right k ≡ row_cells xs place w left right (2 + w + k)
unfolding side_cells row_cells
right_is xs place w left true k l =
    let m : missing (2 + w + k) w left true ≡ false = grind (arith, nat_tests) in
    let e : place + w + k ≡ place + (2 + w + k) - 2 = omega arith in
    rw (m, e) refl
right_is xs place w left false k l = let m : missing (2 + w + k) w left false ≡ true = grind (arith, nat_tests) in rw m refl

-- a row of cells is its samples between its two sides
pub row_padded : (at place w : ℕ) (left right : Bool) (xs : List ℤ) (a b c d : List ℕ) → (left ≡ true → 2 ≤ place) → HasCellRun at 2 (side_cells xs (place - 2) left) a b → HasCellRun (at + 2) w (plain_cells xs place) b c
    → HasCellRun (at + 2 + w) 2 (side_cells xs (place + w) right) c d → HasCellRun at (w + 4) (row_cells xs place w left right) a d
row_padded at place w left right xs a b c d h p q r =
    let all = runs_joined at 2 w 2 (side_cells xs (place - 2) left) (plain_cells xs place) (side_cells xs (place + w) right) (row_cells xs place w left right) a b c d p q r
    (left_is xs place w left right h) (middle_is xs place w left right) (right_is xs place w left right) in
    let n : 2 + w + 2 ≡ w + 4 = omega arith in
    subst (λ m. HasCellRun at m (row_cells xs place w left right) a d) n all

-- a row whose plane goes on both ways is one run
pub row_inner : (at place w : ℕ) (left right : Bool) (xs : List ℤ) (a b : List ℕ) → left ≡ true → right ≡ true → 2 ≤ place → HasCellRun at (w + 4) (plain_cells xs (place - 2)) a b → HasCellRun at (w + 4) (row_cells xs place w left right) a b
unfolding plain_cells row_cells
row_inner at place w left right xs a b el er l h = record {
  long = h.long;
  on = λ k lk.
      let here : place - 2 + k ≡ place + k - 2 = omega arith in
      let none : missing k w left right ≡ false = rw (el, er) (grind (arith, nat_tests)) in
      h.on k lk ∙ (rw (none, here) refl);
  off = h.off;
}

pub ruleset rows = (row_padded)

-- Rows of a window.

-- a row past the plane is a row of marks
pub line_missing : (at place step w h y : ℕ) (s : Sides) (xs : List ℤ) (a b : List ℕ) → missing y h s.top s.bottom ≡ true → HasCellRun at (w + 4) none_cells a b → HasCellRun at (w + 4) (window_cells xs place step w h s y) a b
unfolding none_cells window_cells
line_missing at place step w h y s xs a b e h' = record { long = h'.long; on = λ k l. h'.on k l ∙ (rw e refl); off = h'.off }

-- a row of the plane is a row of samples with two sides
pub line_there : (at place step w h y : ℕ) (s : Sides) (xs : List ℤ) (a b : List ℕ) → missing y h s.top s.bottom ≡ false → HasCellRun at (w + 4) (row_cells xs (place + y * step - 2 * step) w s.left s.right) a b → HasCellRun at (w + 4) (window_cells xs place step w h s y) a b
unfolding window_cells
line_there at place step w h y s xs a b e h' = record { long = h'.long; on = λ k l. h'.on k l ∙ (rw e refl); off = h'.off }

-- a row that the plane has lies in its samples
pub record RowInside (n from w : ℕ) (left right : Bool) : Type 0 where
  pub before : left ≡ true → 2 ≤ from
  pub inside : from + w ≤ n
  pub after : right ≡ true → from + w + 2 ≤ n

-- two rows above a block lie in the list where the block has them
top_rows : (y step : ℕ) → 2 ≤ y → 2 * step ≤ y * step
top_rows y step l = mul-le-mul_right step l

-- a row of the window lies in the list
pub row_inside_window : (n place step w h y : ℕ) (s : Sides) → HoldsWindow n place step w h s → y < h + 4 → missing y h s.top s.bottom ≡ false → (2 * step ≤ place + y * step) × RowInside n (place + y * step - 2 * step) w s.left s.right
row_inside_window n place step w h y s hold ly m =
    let before = hold.before in
    let after = hold.after in
    at s.top s.bottom s.left s.right m before after
  where
    at : (t b l r : Bool) → missing y h t b ≡ false → (if t then 2 * step else 0) + (if l then 2 else 0) ≤ place → place + (h + (if b then 2 else 0)) * step + w + (if r then 2 else 0) ≤ n + step
        → (2 * step ≤ place + y * step) × RowInside n (place + y * step - 2 * step) w l r
    at t b l r m before after =
        let lows : (2 ≤ y) ⊎ (t ≡ true) = grind (arith, nat_tests) in
        let highs : y < h + 2 + (if b then 2 else 0) = grind (arith, nat_tests) in
        let product : y * step + step ≤ (h + 2 + (if b then 2 else 0)) * step = (let m : (y + 1) * step ≤ (h + 2 + (if b then 2 else 0)) * step = mul-le-mul_right step (omega arith) in let e : (y + 1) * step ≡ y * step + step = grind arith in omega arith) in
        let split : (h + 2 + (if b then 2 else 0)) * step ≡ (h + (if b then 2 else 0)) * step + 2 * step = grind arith in
        let first : 2 * step + (if l then 2 else 0) ≤ place + y * step = elim lows [
          | inl many ↦ let p = top_rows y step many in grind arith
          | inr top ↦ grind arith
        ] in
        (omega arith, record { before = λ e. grind arith; inside = grind arith; after = λ e. grind arith })

pub ruleset lines = (line_missing, line_there)

-- the place two rows before row y, and two rows more, is the place of row y
pub rows_after : (y step : ℕ) → 2 ≤ y → (y - 2) * step + 2 * step ≡ y * step
rows_after y step l = go (y - 2) (omega arith)
  where
    go : (z : ℕ) → y ≡ z + 2 → z * step + 2 * step ≡ y * step
    go z e = rw e (grind arith)

-- the rows that a block lacks above and the ones it has make two
pub rows_before : (y step : ℕ) → y < 2 → (2 - y) * step + y * step ≡ 2 * step
rows_before y step l = go (2 - y) (omega arith)
  where
    go : (z : ℕ) → 2 ≡ z + y → z * step + y * step ≡ 2 * step
    go z e = rw e (grind arith)

pub ruleset places = (rows_after, rows_before)

-- no rows of cells are written yet
pub cells_none : (stride w : ℕ) (value : ℕ → ℕ → ℕ) (xs : List ℕ) → HasPaddedCells stride w 0 value xs xs
cells_none stride w value xs = record { long = refl; on = λ y k ly lk. absurd (omega arith); off = λ i f. refl }

-- a row ends before each later row begins
apart : (s i j : ℕ) → i < j → i * s + s ≤ j * s
apart s i j l =
    let rows : (i + 1) * s ≤ j * s = mul-le-mul_right s (omega arith) in
    let more : (i + 1) * s ≡ i * s + s = grind arith in
    omega arith

-- one row of cells more is written
pub cells_more : (stride w h : ℕ) (value : ℕ → ℕ → ℕ) (xs ys zs : List ℕ) → w + 4 ≤ stride → HasPaddedCells stride w h value xs ys → HasCellRun (h * stride) (w + 4) (value h) ys zs → HasPaddedCells stride w (h + 1) value xs zs
cells_more stride w h value xs ys zs wide c r = record {
  long = r.long ∙ c.long;
  on = λ y k ly lk. elim (cases_eq y h) [
    | inl same ↦ rw same (r.on k lk)
    | inr other ↦ let a = apart stride y h (omega arith) in r.off (y * stride + k) (λ j lj e. omega arith) ∙ c.on y k (omega arith) lk
  ];
  off = λ i f. r.off i (λ k lk. f h k (omega arith) lk) ∙ c.off i (λ y k ly lk. f y k (omega arith) lk);
}

pub ruleset blocks = (cells_none, cells_more)
