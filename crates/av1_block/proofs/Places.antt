-- Places of rows in a table that is stored row by row.
use Rattle.std.proofs.Common.{◌≡◌, ℕ, ◌+◌, ◌-◌, ◌*◌, ◌<◌, ◌≤◌, min, List, length, take, drop, arith}
use Rattle.std.proofs.lemmas.Nat.{mul-le}
use Rattle.av1_block.specs.Cut.{LiesIn}
use Rattle.std.proofs.lemmas.List.{take_rest, length-drop, get_or_read_under}

-- a row below the last ends within the table
pub row_ends : (y cols rows : ℕ) → y < rows → y * cols + cols ≤ cols * rows
row_ends y cols rows below = omega (arith, mul-le (y + 1) cols rows cols (omega arith) (omega arith))

-- from its first place on, a rectangle's rows lie in the table
pub rectangle_stored : {E : Type 0} (xs : List E) (x y cols rows w h from : ℕ) → x + w ≤ cols → y + h ≤ rows → length xs ≡ cols * rows → from ≡ min (y * cols + x) (length xs)
    → h * cols + w ≤ length (take (length xs - from) (drop from xs)) + cols
rectangle_stored xs x y cols rows w h from across down whole is =
    rw (take_rest xs from, length-drop from xs) (omega (arith, mul-le (y + h) cols rows cols down (omega arith)))

-- a part of a rectangle that is stored is stored
pub part_stored : {E : Type 0} (xs : List E) (x y step cols rows w h : ℕ) → x + w ≤ cols → y + h ≤ rows → rows * step + cols ≤ length xs + step
    → h * step + w ≤ length (take (length xs - (y * step + x)) (drop (y * step + x) xs)) + step
part_stored xs x y step cols rows w h across down stored =
    rw (take_rest xs (y * step + x), length-drop (y * step + x) xs) (omega (arith, mul-le (y + h) step rows step down (omega arith)))

-- a rectangle that stays inside a table's sides lies in the table
pub placed_lies : (left top cols rows w h n : ℕ) → left + w ≤ cols → top + h ≤ rows → n ≡ cols * rows → LiesIn n cols left top w h
placed_lies left top cols rows w h n across down whole = record {
  across = across;
  down = omega (arith, whole, mul-le (top + h) cols rows cols down (omega arith));
}

pub ruleset places = (row_ends)

-- Rules for reading an entry of a table.
pub ruleset entries_read = (row_ends, get_or_read_under)
