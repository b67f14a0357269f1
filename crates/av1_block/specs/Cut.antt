-- A rectangle of a table that is stored row by row: its entries, and the table with them replaced.
use Rattle.std.specs.Prelude.{ℕ, zero, suc, ◌+◌, ◌*◌, ◌<◌, ◌≤◌, List, [], ◌++◌, length, map, take, drop}
use Rattle.av1_plane.specs.declared.tile_rect.TileRect.{TileRect}
use Rattle.av1_block.specs.declared.cut.Cut.{Cut}
use Rattle.av1_block.specs.Rows.{Rows, with_entries}

-- the rectangle of these sides at column x of row y lies in a table of n entries, `cols` to a row
pub record LiesIn (n cols x y width height : ℕ) : Type 0 where
  pub across : x + width ≤ cols
  pub down : (y + height) * cols ≤ n

-- the entries of the rectangle of these sides at column x of row y, row by row
unfoldable pub cut_of : {E : Type 0} → List E → ℕ → ℕ → ℕ → ℕ → ℕ → List E
cut_of table cols x y width zero = []
cut_of table cols x y width (suc height) =
    cut_of table cols x y width height ++ take width (drop ((y + height) * cols + x) table)

-- a list with `run` over as many entries from place i on
abbrev pub overwritten : {E : Type 0} → List E → ℕ → List E → List E
overwritten table i run = take i table ++ (run ++ drop (length run) (drop i table))

-- the table with these entries, row by row, in the rectangle of these sides at column x of row y
unfoldable pub with_cut : {E : Type 0} → List E → ℕ → ℕ → ℕ → ℕ → ℕ → List E → List E
with_cut table cols x y width zero entries = table
with_cut table cols x y width (suc height) entries =
    overwritten (with_cut table cols x y width height entries) ((y + height) * cols + x) (take width (drop (height * width) entries))

-- the table with f done to each entry of the rectangle of these sides at column x of row y
abbrev pub with_each : {E : Type 0} → (E → E) → List E → ℕ → ℕ → ℕ → ℕ → ℕ → List E
with_each f table cols x y width height = with_cut table cols x y width height (map f (cut_of table cols x y width height))

-- a rectangle lies in a table of n entries with `cols` columns
abbrev pub LiesInTable : ℕ → ℕ → TileRect → Type 0
LiesInTable n cols rect = LiesIn n cols rect.x rect.y rect.width rect.height

-- the entries of a table inside a rectangle, row by row
abbrev pub cut_at : {E : Type 0} → List E → ℕ → TileRect → List E
cut_at table cols rect = cut_of table cols rect.x rect.y rect.width rect.height

-- the table with these entries, row by row, inside a rectangle
abbrev pub put_at : {E : Type 0} → List E → ℕ → TileRect → List E → List E
put_at table cols rect entries = with_cut table cols rect.x rect.y rect.width rect.height entries

-- column u of row v is a place of the rectangle
pub record IsInside (rect : TileRect) (u v : ℕ) : Type 0 where
  pub left : rect.x ≤ u
  pub right : u < rect.x + rect.width
  pub top : rect.y ≤ v
  pub bottom : v < rect.y + rect.height

-- two rectangles have no place in common
abbrev pub AreApart : TileRect → TileRect → Type 0
AreApart a b = (u v : ℕ) → IsInside a u v → ¬ IsInside b u v

-- the entries of a cut, row by row
abbrev pub cut_entries : {E : Type 0} → Cut E → List E
cut_entries c = c.table.entries

-- the rectangle of the table that a cut was taken from
abbrev pub cut_rect : {E : Type 0} → Cut E → TileRect
cut_rect c = record { x = c.x; y = c.y; width = c.table.cols; height = c.table.rows }

-- how many columns the table has that a cut was taken from
abbrev pub cut_table_cols : {E : Type 0} → Cut E → ℕ
cut_table_cols c = c.table_cols

-- the table of a cut: its entries, and the sides of its rectangle
abbrev pub cut_table : {E : Type 0} → Cut E → Rows E
cut_table c = c.table

-- the cut with other entries
abbrev pub recut : {E : Type 0} → Cut E → List E → Cut E
recut c entries = record c { table = with_entries c.table entries }

-- the cut with another table of entries
abbrev pub with_cut_table : {E : Type 0} → Cut E → Rows E → Cut E
with_cut_table c table = record c { table = table }
