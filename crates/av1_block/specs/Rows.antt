-- What contracts see of a table: its entries, row by row, and its sides.
use Rattle.std.specs.Prelude.{ℕ, List, ◌++◌, length, take, drop, slice_set}

-- a table: its entries, row by row, and how many columns and rows it has
pub record Rows (E : Type 0) : Type 0 where
  pub entries : List E
  pub cols : ℕ
  pub rows : ℕ

-- a list with others written over its front, as long as before
abbrev pub refilled : {E : Type 0} → List E → List E → List E
refilled old new = take (length old) (new ++ drop (length new) old)

-- the table with these entries, as many as before
abbrev pub with_entries : {E : Type 0} → Rows E → List E → Rows E
with_entries t entries = record t { entries = refilled t.entries entries }

-- the table with these entries from index i on
abbrev pub with_entry_run : {E : Type 0} → Rows E → ℕ → List E → Rows E
with_entry_run t i run = with_entries t (take i t.entries ++ (run ++ drop (length run) (drop i t.entries)))

-- the table with this entry at index i
abbrev pub with_entry : {E : Type 0} → Rows E → ℕ → E → Rows E
with_entry t i entry = record t { entries = slice_set t.entries i entry }
