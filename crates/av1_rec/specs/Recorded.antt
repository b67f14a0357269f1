-- What a coder of recorded results makes of a view: the bytes recorded for the tile that begins at the
-- view's first superblock, and the view with the tile's recorded samples, blocks and restoration units.
-- Samples are recorded where they are inside the plane, whose sides are whole blocks of 8 luma samples;
-- the rest of the view stays. Tiles are counted row by row (AV1 specification, section 5.11.1).
use Rattle.std.specs.Prelude.{ℕ, ℤ, ◌+◌, ◌-◌, ◌*◌, ◌==◌, ◌&&◌, nat_lt, min, List, [], ◌∷◌, length, Bool, Option, Some, None, if◌then◌else◌}
use Rattle.std.specs.Global.{Vec}
use Rattle.std.specs.List.{list_all, flat_map}
use Rattle.av1_plane.specs.declared.three.Three.{Three}
use Rattle.av1_block.specs.declared.block.Block.{Block}
use Rattle.av1_block.specs.declared.restoration_unit.RestorationUnit.{RestorationUnit}
use Rattle.av1_block.specs.Cut.{with_cut}
use Rattle.av1_tiling.specs.declared.tiling_info.TilingInfo.{TilingInfo}
use Rattle.av1_tiling.specs.TileRects.{tile_superblock}
use Rattle.av1_tiling.specs.Views.{View, TileState, plane_at, with_samples, with_units, with_blocks}
use Rattle.av1_rec.specs.Lines.{said_planes}
use Rattle.av1_rec.specs.declared.coder.recorded_tile.RecordedTile.{RecordedTile}
use Rattle.av1_rec.specs.declared.coder.recorded_tile.RecordedTile.TheVariants as kept

-- a recorded result: the coder refused the tile, or gave its bytes, the rows of its samples inside each plane, its
-- blocks and its restoration units
pub data Recorded : Type 0 where
  Refused : Recorded
  Coded : List ℕ → Three (List (List ℤ)) → List Block → Three (List RestorationUnit) → Recorded

-- the units of each plane as lists
abbrev pub unit_lists : Three (Vec RestorationUnit) → Three (List RestorationUnit)
unit_lists units = record { y = units.y.items; u = units.u.items; v = units.v.items }

-- a recorded result as plain data, its samples as numbers
abbrev pub recorded : {X : Type 0} → (X → ℤ) → RecordedTile X → Recorded
recorded number kept.Refused = Refused
recorded number (kept.Coded bytes rows blocks units) =
    Coded bytes.items (said_planes number rows) blocks.items (unit_lists units)

-- whether tile n is in the grid and has this first superblock
abbrev pub begins_at : TilingInfo → ℕ × ℕ → ℕ → Bool
begins_at t superblock n =
    nat_lt n (t.cols * t.rows) && ((tile_superblock t n).0 == superblock.0 && (tile_superblock t n).1 == superblock.1)

-- the first of the entries for the tiles from n on whose tile has this first superblock
unfoldable pub recorded_entry : {E : Type 0} → TilingInfo → ℕ × ℕ → ℕ → List E → Option E
recorded_entry t superblock n [] = None
recorded_entry t superblock n (e ∷ es) = if begins_at t superblock n then Some e else recorded_entry t superblock (n + 1) es

-- how much of a line of this length from `start` on lies in a plane from `origin` on
abbrev pub length_inside : (origin inside start length : ℕ) → ℕ
length_inside origin inside start length = min length (origin + inside - start)

-- the columns and rows of plane pli of a view that are inside the plane
abbrev pub sides_inside : TileState → ℕ → ℕ × ℕ
sides_inside t pli =
    let cfg = (plane_at t.input pli).cfg in
    let rect = (plane_at t.rec pli).rect in
    (length_inside cfg.xorigin cfg.width rect.x rect.width, length_inside cfg.yorigin cfg.height rect.y rect.height)

-- whether each row has this length
abbrev pub are_long : {E : Type 0} → ℕ → List (List E) → Bool
are_long width rows = list_all (λ row. length row == width) rows

-- whether there are this many rows, each of this length
abbrev pub have_sides : {E : Type 0} → ℕ × ℕ → List (List E) → Bool
have_sides sides rows = length rows == sides.1 && are_long sides.0 rows

-- the rows one behind another, as one list
abbrev pub joined : {E : Type 0} → List (List E) → List E
joined rows = flat_map (λ row. row) rows

-- a tile's state with these rows in the columns and rows of plane pli that are inside the plane
abbrev pub with_rows : TileState → ℕ → List (List ℤ) → TileState
with_rows t pli rows =
    let part = plane_at t.rec pli in
    with_samples t pli (with_cut part.entries part.rect.width 0 0 (sides_inside t pli).0 (sides_inside t pli).1 (joined rows))

-- whether the rows of each plane have the sides that the view's part has inside the plane
abbrev pub planes_fit : TileState → Three (List (List ℤ)) → Bool
planes_fit t rows =
    have_sides (sides_inside t 0) rows.y && (have_sides (sides_inside t 1) rows.u && have_sides (sides_inside t 2) rows.v)

-- a tile's state with the rows of each plane in the samples inside the plane
abbrev pub with_planes : TileState → Three (List (List ℤ)) → TileState
with_planes t rows = with_rows (with_rows (with_rows t 0 rows.y) 1 rows.u) 2 rows.v

-- whether there are as many units of each plane as the view has
abbrev pub units_fit : TileState → Three (List RestorationUnit) → Bool
units_fit t units =
    length units.y == length t.units.y.entries
    && (length units.u == length t.units.u.entries && length units.v == length t.units.v.entries)

-- a tile's state with these units of each plane
abbrev pub with_unit_lists : TileState → Three (List RestorationUnit) → TileState
with_unit_lists t units = with_units (with_units (with_units t 0 units.y) 1 units.u) 2 units.v

-- a view with the recorded samples, units and blocks
abbrev pub with_recorded : View → Three (List (List ℤ)) → List Block → Three (List RestorationUnit) → View
with_recorded v rows blocks units = with_blocks (record v { ts = with_unit_lists (with_planes v.ts rows) units }) blocks

-- what a recorded result makes of a view
abbrev pub entry_meaning : Option Recorded → View → Option (List ℕ × View)
entry_meaning None v = None
entry_meaning (Some Refused) v = None
entry_meaning (Some (Coded bytes rows blocks units)) v =
    if planes_fit v.ts rows && (units_fit v.ts units && length blocks == length v.blocks.entries)
    then Some (bytes, with_recorded v rows blocks units) else None

-- what the results recorded for the tiles of a grid make of a view
abbrev pub recorded_meaning : TilingInfo → List Recorded → View → Option (List ℕ × View)
recorded_meaning tiling results v = entry_meaning (recorded_entry tiling v.ts.superblock 0 results) v
