-- What a tile's state and its context lend: each part at its place in the frame.
use Rattle.std.specs.Prelude.{ℕ, ℤ, pos, ◌+ℤ◌, ◌≤ℤ◌, ◌≡◌, ◌+◌, ◌-◌, ◌*◌, ◌^◌, ◌≤◌, ◌<◌, List, drop, min, slice_set}
use Rattle.std.specs.List.{slice_index_or}
use Rattle.av1_plane.specs.declared.region.Rect.{Rect}
use Rattle.av1_plane.specs.declared.region.PlaneRegion.{PlaneRegion}
use Rattle.av1_plane.specs.declared.tile.Tile.{Tile}
use Rattle.av1_plane.specs.declared.tile_rect.TileRect.{TileRect}
use Rattle.av1_plane.specs.declared.offset.BlockOffset.{BlockOffset}
use Rattle.av1_plane.specs.declared.offset.SuperBlockOffset.{SuperBlockOffset}
use Rattle.av1_plane.specs.Place.{rect_start, no_area}
use Rattle.av1_plane.specs.Reading.{numbers_seen, step_seen, area_seen}
use Rattle.av1_plane.specs.Regions.{StoresRect}
use Rattle.av1_block.specs.declared.me_stats.MEStats.{MEStats}
use Rattle.av1_block.specs.declared.tile_view.TileView.{TileView}
use Rattle.av1_block.specs.Tables.{view_entries, view_step, view_x, view_y, view_cols, view_rows, view_frame_cols, view_frame_rows}
use Rattle.av1_block.specs.declared.tile_view_mut.TileViewMut.{TileViewMut}
use Rattle.av1_block.specs.Rows.{Rows}
use Rattle.av1_block.specs.Windows.{cut_window}
use Rattle.av1_block.specs.Writing.{window, table_under, IsPlaced}
use Rattle.av1_tiling.specs.declared.part_place.PartPlace.{PartPlace}
use Rattle.av1_tiling.specs.Views.{PlaneView, Part, Motion, TileState, part_table, part_with_entries, part_with_table}
use Rattle.av1_tiling.specs.Coded.{no_part}

-- the rectangle of a part of a plane, from the plane's origin
abbrev pub part_area : PartPlace → Part ℤ → Rect
part_area place part = record { x = place.x; y = place.y; width = part.rect.width; height = part.rect.height }

-- a region shows a part of a plane
pub record ShowsPart {X : Type 0} (number : X → ℤ) (place : PartPlace) (part : Part ℤ) (r : PlaneRegion X) : Type 0 where
  pub samples : numbers_seen number r ≡ part.entries
  pub step : step_seen r ≡ part.rect.width
  pub cfg : r.plane_cfg.now ≡ place.cfg
  pub area : area_seen r ≡ part_area place part

-- a tile shows the parts of three planes
pub record ShowsParts {X : Type 0} (number : X → ℤ) (t : TileState) (tile : Tile X) : Type 0 where
  pub y : ShowsPart number t.places.y t.rec.y tile.planes.y
  pub u : ShowsPart number t.places.u t.rec.u tile.planes.u
  pub v : ShowsPart number t.places.v t.rec.v tile.planes.v

-- a region shows a rectangle of a plane, and nothing where the plane has a side of 0
pub record ShowsStored {X : Type 0} (number : X → ℤ) (plane : PlaneView) (rect : Rect) (r : PlaneRegion X) : Type 0 where
  pub samples : 0 < plane.cfg.width → 0 < plane.cfg.height → numbers_seen number r ≡ drop (rect_start plane.cfg rect) plane.samples
  pub step : step_seen r ≡ plane.cfg.stride
  pub cfg : r.plane_cfg.now ≡ plane.cfg
  pub area : 0 < plane.cfg.width → 0 < plane.cfg.height → area_seen r ≡ rect
  pub no_width : plane.cfg.width ≡ 0 → area_seen r ≡ no_area
  pub no_height : plane.cfg.height ≡ 0 → area_seen r ≡ no_area

-- `count` places from `first` on, counted from place `origin`, are among the first `stored` ones
pub record IsSpanIn (origin : ℕ) (first : ℤ) (count stored : ℕ) : Type 0 where
  pub start : pos 0 ≤ℤ (pos origin +ℤ first)
  pub past : (pos origin +ℤ first +ℤ pos count) ≤ℤ pos stored

-- a region shows a rectangle of a plane where the plane stores it, and nothing where it doesn't
pub record ShowsWhereStored {X : Type 0} (number : X → ℤ) (plane : PlaneView) (rect : Rect) (r : PlaneRegion X) : Type 0 where
  pub stored : StoresRect plane.cfg rect → ShowsStored number plane rect r
  pub elsewhere : ¬ StoresRect plane.cfg rect → area_seen r ≡ no_area
  pub cfg : r.plane_cfg.now ≡ plane.cfg

-- a tile shows a state's input at the places of the state's parts
pub record ShowsInput {X : Type 0} (number : X → ℤ) (t : TileState) (tile : Tile X) : Type 0 where
  pub y : ShowsWhereStored number t.input.y (part_area t.places.y t.rec.y) tile.planes.y
  pub u : ShowsWhereStored number t.input.u (part_area t.places.u t.rec.u) tile.planes.u
  pub v : ShowsWhereStored number t.input.v (part_area t.places.v t.rec.v) tile.planes.v

-- the input of a state stores the rectangles of the state's parts
pub record HoldsInput (t : TileState) : Type 0 where
  pub y : StoresRect t.input.y.cfg (part_area t.places.y t.rec.y)
  pub u : StoresRect t.input.u.cfg (part_area t.places.u t.rec.u)
  pub v : StoresRect t.input.v.cfg (part_area t.places.v t.rec.v)

-- a view shows a part of a table with these sides, as far as the table goes
pub record ShowsTablePart {E : Type 0} (part : Part E) (table_cols table_rows : ℕ) (v : TileView E) : Type 0 where
  pub entries : view_entries v ≡ part.entries
  pub step : view_step v ≡ part.rect.width
  pub x : view_x v ≡ part.rect.x
  pub y : view_y v ≡ part.rect.y
  pub cols : view_cols v ≡ min part.rect.width (table_cols - part.rect.x)
  pub rows : view_rows v ≡ min part.rect.height (table_rows - part.rect.y)
  pub frame_cols : view_frame_cols v ≡ table_cols
  pub frame_rows : view_frame_rows v ≡ table_rows

-- a view for writing borrows a part of a table with these sides, and shows it as far as the table goes
pub record LendsTablePart {E : Type 0} (part : Part E) (table_cols table_rows : ℕ) (v : TileViewMut E) : Type 0 where
  pub table : table_under v ≡ part_table part
  pub window : window v ≡ cut_window part.rect table_cols table_rows
  pub placed : IsPlaced v

-- a rectangle lies in a table of these sides: a view of a part with it shows the whole part
pub record LiesInSides (rect : TileRect) (table_cols table_rows : ℕ) : Type 0 where
  pub across : rect.x + rect.width ≤ table_cols
  pub down : rect.y + rect.height ≤ table_rows

-- the part of motion table i
abbrev pub motion_part_at : List (Part MEStats) → ℕ → Part MEStats
motion_part_at parts i = slice_index_or parts i no_part

-- parts of the motion tables, with this table in place of part i's
abbrev pub parts_with_table : List (Part MEStats) → ℕ → Rows MEStats → List (Part MEStats)
parts_with_table parts i table = slice_set parts i (part_with_table (motion_part_at parts i) table)

-- parts of the motion tables, with these records in part i, as many as before
abbrev pub parts_with_records : List (Part MEStats) → ℕ → List MEStats → List (Part MEStats)
parts_with_records parts i records = slice_set parts i (part_with_entries (motion_part_at parts i) records)

-- a tile's motion with these records in part i, as many as before
abbrev pub with_motion_records : Motion → ℕ → List MEStats → Motion
with_motion_records m i records = record m { parts = parts_with_records m.parts i records }

-- a tile's state with these motion records in part i, as many as before
abbrev pub with_records : TileState → ℕ → List MEStats → TileState
with_records t i records = record t { me_stats = parts_with_records t.me_stats i records }

-- a tile's motion with this table in place of part i's
abbrev pub with_motion_table : Motion → ℕ → Rows MEStats → Motion
with_motion_table m i table = record m { parts = parts_with_table m.parts i table }

-- a tile's state with this table of motion records in place of part i's
abbrev pub with_motion : TileState → ℕ → Rows MEStats → TileState
with_motion t i table = record t { me_stats = parts_with_table t.me_stats i table }

-- the tile's luma samples in the frame, without those that fill its last superblocks
abbrev pub state_rect : TileState → TileRect
state_rect t = record {
  x = t.superblock.0 * 2 ^ t.sb_size_log2;
  y = t.superblock.1 * 2 ^ t.sb_size_log2;
  width = t.width;
  height = t.height;
}

-- the tile's first superblock
abbrev pub tile_first_superblock : TileState → SuperBlockOffset
tile_first_superblock t = record { x = t.superblock.0; y = t.superblock.1 }

-- the tile's first block
abbrev pub tile_first_block : TileState → BlockOffset
tile_first_block t = record { x = t.superblock.0 * 2 ^ (t.sb_size_log2 - 2); y = t.superblock.1 * 2 ^ (t.sb_size_log2 - 2) }
