-- The levels at which the filter of a line changes. A line is filtered from one level on, and loses
-- its high variance at another.
use Rattle.std.specs.Prelude.{ℕ, zero, suc, ℤ, ◌≡◌, ◌⊎◌, ◌+◌, ◌-◌, ◌*◌, ◌/◌, Bool, ◌==◌, if◌then◌else◌, List, max}
use Rattle.av1_deblock.specs.Line.{before, after, distance, p0, p1, q0, q1, flat, flat_outside, tested, narrow, wide}

-- the scale of a bit depth: 2 to the number of its bits above 8
abbrev pub IsScale : ℕ → Type 0
IsScale s = (s ≡ 1) ⊎ (s ≡ 4) ⊎ (s ≡ 16)

-- the least number of which s times is at least d
abbrev pub over : ℕ → ℕ → ℕ
over d s = (d + (s - 1)) / s

-- the greatest of the first n steps of both sides
unfoldable pub greatest_step : List ℤ → ℕ → ℕ → ℕ
greatest_step xs half zero = 0
greatest_step xs half (suc n) = max (greatest_step xs half n) (max (distance (before xs half (n + 1)) (before xs half n)) (distance (after xs half (n + 1)) (after xs half n)))

-- the size of the step over the edge
abbrev pub edge_distance : List ℤ → ℕ → ℕ
edge_distance xs half = 2 * distance (p0 xs half) (q0 xs half) + distance (p1 xs half) (q1 xs half) / 2

-- the least level at which a line with these distances is filtered
abbrev pub first_of_distances : ℕ → ℕ → ℕ → ℕ
first_of_distances s edge step = max (max 1 ((over edge s - 4 + 2) / 3)) (over step s)

-- the least level at which a line is filtered
abbrev pub first_level : ℕ → ℕ → List ℤ → ℕ
first_level s size xs = first_of_distances s (edge_distance xs (size / 2)) (greatest_step xs (size / 2) (tested size))

-- the greater of the steps next to the edge
abbrev pub variance : List ℤ → ℕ → ℕ
variance xs half = max (distance (p1 xs half) (p0 xs half)) (distance (q1 xs half) (q0 xs half))

-- a line as it is filtered without regard to the level, with high variance or without
abbrev pub moved_line : ℕ → ℕ → Bool → List ℤ → List ℤ
moved_line s size high xs =
    if flat s size xs then
    (if size == 6 then wide xs 3 2 1 3
    else if flat_outside s size xs then wide xs 7 6 1 4
    else wide xs (size / 2) 3 0 3)
    else narrow s (size / 2) high xs
