-- What holds of all cuts of one table.
use Rattle.std.specs.Prelude.{ℕ, ◌≡◌, ◌*◌, List, length}
use Rattle.av1_plane.specs.declared.tile_rect.TileRect.{TileRect}
use Rattle.av1_block.specs.Cut.{LiesInTable, cut_at, put_at, AreApart}

-- putting a cut back where it was taken changes nothing
abbrev pub PutOfCutIsSame : Type 0 → Type 0
PutOfCutIsSame E = (table : List E) (cols : ℕ) (rect : TileRect) → LiesInTable (length table) cols rect
    → put_at table cols rect (cut_at table cols rect) ≡ table

-- taking after putting gives the cut
abbrev pub CutOfPutIsPut : Type 0 → Type 0
CutOfPutIsPut E = (table entries : List E) (cols : ℕ) (rect : TileRect) → LiesInTable (length table) cols rect → length entries ≡ rect.width * rect.height
    → cut_at (put_at table cols rect entries) cols rect ≡ entries

-- cuts of rectangles with no place in common may be put in either order
abbrev pub PutsCommute : Type 0 → Type 0
PutsCommute E = (table ones others : List E) (cols : ℕ) (one other : TileRect) → LiesInTable (length table) cols one → LiesInTable (length table) cols other → AreApart one other
    → put_at (put_at table cols one ones) cols other others ≡ put_at (put_at table cols other others) cols one ones
