-- A tile's view of a plane's restoration units: which unit a superblock of the tile belongs to.
use Rattle.std.specs.Prelude.{ℕ, ℤ, pos, negsuc, ◌+◌, ◌-◌, ◌*◌, ◌/◌, ◌%◌, ◌^◌, ◌≤◌, ◌<◌, ◌≡◌, min, max, drop, ◌==◌, ◌&&◌, ◌||◌, Bool, not, nat_le, nat_lt, Option, Some, None, if◌then◌else◌, List, [], ◌∷◌}
use Rattle.std.specs.List.{slice_index_or}
use Rattle.av1_plane.specs.declared.offset.SuperBlockOffset.{SuperBlockOffset}
use Rattle.av1_plane.specs.declared.tile_rect.TileRect.{TileRect}
use Rattle.av1_block.specs.declared.restoration_unit.RestorationUnit.{RestorationUnit}
use Rattle.av1_block.specs.declared.tile_view.TileView.{TileView}
use Rattle.av1_block.specs.RestorationUnit.{no_unit}
use Rattle.av1_block.specs.declared.tile_view_mut.TileViewMut.{TileViewMut}
use Rattle.av1_block.specs.declared.window.Window.{Window}
use Rattle.av1_block.specs.Tables.{view_entries, view_step, view_x, view_y, view_cols, view_rows}
use Rattle.av1_block.specs.Windows.{frame_window, cut_window}
use Rattle.av1_block.specs.Writing.{window, table_under, entries_under, place_under, IsPlaced}
use Rattle.av1_tiling.specs.declared.unit_side.UnitSide.{UnitSide}
use Rattle.av1_tiling.specs.declared.restoration_plane.RestorationPlaneConfig.{RestorationPlaneConfig}
use Rattle.av1_tiling.specs.declared.tile_restoration_plane.TileRestorationPlane.{TileRestorationPlane}
use Rattle.av1_tiling.specs.declared.tile_restoration_plane_mut.TileRestorationPlaneMut.{TileRestorationPlaneMut}
use Rattle.av1_tiling.specs.Restoration.{Units}
use Rattle.av1_tiling.specs.TileRects.{units_rect}
use Rattle.av1_tiling.specs.Views.{Part}

-- the Wiener coefficients that the first units of a tile are coded against
abbrev pub wiener_start : List (List ℤ)
wiener_start = let taps = pos 3 ∷ negsuc 6 ∷ pos 15 ∷ [] in taps ∷ taps ∷ []

-- the self-guided weights that the first units of a tile are coded against
abbrev pub sgrproj_start : List ℤ
sgrproj_start = negsuc 31 ∷ pos 31 ∷ []

-- the logarithms of a unit's sides in superblocks are at most 8
pub record HasShifts (cfg : RestorationPlaneConfig) : Type 0 where
  pub across : cfg.sb_h_shift ≤ 8
  pub down : cfg.sb_v_shift ≤ 8

-- a view's units across: how many columns, of how many superblocks
abbrev pub across_side : RestorationPlaneConfig → ℕ → UnitSide
across_side cfg cols = record { superblocks = cfg.sb_cols; shift = cfg.sb_h_shift; units = cols }

-- a view's units down: how many rows, of how many superblocks
abbrev pub down_side : RestorationPlaneConfig → ℕ → UnitSide
down_side cfg rows = record { superblocks = cfg.sb_rows; shift = cfg.sb_v_shift; units = rows }

-- whether superblock s lies past the units of a side, so that the last unit is stretched over it
abbrev pub is_past : UnitSide → ℕ → Bool
is_past side s = nat_lt s side.superblocks && nat_le side.units (s / 2 ^ side.shift)

-- the unit that serves superblock s, whether or not the side has it
abbrev pub serving_unit : UnitSide → ℕ → ℕ
serving_unit side s = if is_past side s then s / 2 ^ side.shift - 1 else s / 2 ^ side.shift

-- the unit that serves superblock s, where the side has it; none for a superblock past the units,
-- unless the last one may be stretched
unfoldable pub unit_along : UnitSide → ℕ → Bool → Option ℕ
unit_along side s stretch =
    if is_past side s && not stretch then None
    else if nat_lt (serving_unit side s) side.units then Some (serving_unit side s) else None

-- a unit of the side that serves superblock s: the superblock's own, or the last one
pub record Serves (side : UnitSide) (s unit : ℕ) : Type 0 where
  pub inside : unit < side.units
  pub nearest : unit ≡ min (s / 2 ^ side.shift) (side.units - 1)

-- a pair of two values, where there are both
abbrev pub both : Option ℕ → Option ℕ → Option (ℕ × ℕ)
both None y = None
both (Some x) None = None
both (Some x) (Some y) = Some (x, y)

-- the column and row of a superblock's unit in a view of these sides
abbrev pub unit_index : RestorationPlaneConfig → ℕ × ℕ → SuperBlockOffset → Bool → Option (ℕ × ℕ)
unit_index cfg sides sbo stretch =
    both (unit_along (across_side cfg sides.0) sbo.x stretch) (unit_along (down_side cfg sides.1) sbo.y stretch)

-- how many columns and rows the units of two superblocks stand apart
abbrev pub index_difference : Option (ℕ × ℕ) → Option (ℕ × ℕ) → Option (ℕ × ℕ)
index_difference None later = None
index_difference (Some first) None = None
index_difference (Some first) (Some later) = Some (later.0 - first.0, later.1 - first.1)

-- whether, along one side, superblock s of a tile is the last of its unit or of the frame
abbrev pub is_last_along : UnitSide → (frame_superblocks first s : ℕ) → Bool
is_last_along side frame_superblocks first s =
    (s % 2 ^ side.shift == 2 ^ side.shift - 1) && nat_lt (s / 2 ^ side.shift) side.units
    || (first + s + 1 == frame_superblocks)

-- the sides of a view
abbrev pub view_sides : {E : Type 0} → TileView E → ℕ × ℕ
view_sides v = (view_cols v, view_rows v)

-- the sides of a view for writing
abbrev pub sides_under : {E : Type 0} → TileViewMut E → ℕ × ℕ
sides_under v = ((window v).cols, (window v).rows)

-- the unit at a column and row of a view
abbrev pub unit_at : TileView RestorationUnit → ℕ × ℕ → RestorationUnit
unit_at v place = slice_index_or (view_entries v) (place.1 * view_step v + place.0) no_unit

-- the unit at a column and row of a view for writing
abbrev pub unit_under : TileViewMut RestorationUnit → ℕ × ℕ → RestorationUnit
unit_under v place = slice_index_or (entries_under v) (place_under v place.0 place.1) no_unit

-- along both sides of a view, superblock s of a tile is the last of its unit or of the frame
abbrev pub is_last_superblock : RestorationPlaneConfig → ℕ × ℕ → (frame : ℕ × ℕ) → (first s : SuperBlockOffset) → Bool
is_last_superblock cfg sides frame first s =
    is_last_along (across_side cfg sides.0) frame.0 first.x s.x && is_last_along (down_side cfg sides.1) frame.1 first.y s.y

-- a view with this layout of a rectangle of a table of units: its rows lie `columns` apart in these units, from the first on
pub record ShowsUnits (layout : RestorationPlaneConfig) (units : List RestorationUnit) (columns : ℕ) (rect : TileRect) (v : TileRestorationPlane) : Type 0 where
  pub cfg : v.rp_cfg.now ≡ layout
  pub wiener : v.wiener_ref ≡ wiener_start
  pub sgrproj : v.sgrproj_ref ≡ sgrproj_start
  pub entries : view_entries v.units ≡ units
  pub step : view_step v.units ≡ columns
  pub x : view_x v.units ≡ rect.x
  pub y : view_y v.units ≡ rect.y
  pub cols : view_cols v.units ≡ rect.width
  pub rows : view_rows v.units ≡ rect.height

-- a view for writing with this layout of a window of a table of these units, row by row, with so many columns
pub record LendsUnits (layout : RestorationPlaneConfig) (units : List RestorationUnit) (columns : ℕ) (rect : Window) (v : TileRestorationPlaneMut) : Type 0 where
  pub cfg : v.rp_cfg.now ≡ layout
  pub wiener : v.wiener_ref ≡ wiener_start
  pub sgrproj : v.sgrproj_ref ≡ sgrproj_start
  pub entries : entries_under v.units ≡ units
  pub cols : (table_under v.units).cols ≡ columns
  pub place : window v.units ≡ rect
  pub placed : IsPlaced v.units

-- the rectangle of a plane's units that a tile with this first superblock and so many superblocks covers
abbrev pub tile_rect : Units → SuperBlockOffset → (superblocks : ℕ × ℕ) → TileRect
tile_rect u sbo superblocks = units_rect (sbo.x, sbo.y) superblocks (u.cfg.sb_h_shift, u.cfg.sb_v_shift) (u.cols, u.rows)

-- the tile's view of a plane's units
abbrev pub ShowsTileUnits : Units → SuperBlockOffset → (superblocks : ℕ × ℕ) → TileRestorationPlane → Type 0
ShowsTileUnits u sbo superblocks v =
    let rect = tile_rect u sbo superblocks in
    ShowsUnits u.cfg (drop (rect.y * u.cols + rect.x) u.entries) u.cols rect v

-- the tile's view of a plane's units for writing
abbrev pub LendsTileUnits : Units → SuperBlockOffset → (superblocks : ℕ × ℕ) → TileRestorationPlaneMut → Type 0
LendsTileUnits u sbo superblocks v =
    let rect = tile_rect u sbo superblocks in
    LendsUnits u.cfg u.entries u.cols (frame_window rect.x rect.y rect.width rect.height u.cols u.rows) v

-- what a view for writing shows for reading
pub record IsViewOf (v : TileRestorationPlaneMut) (w : TileRestorationPlane) : Type 0 where
  pub cfg : w.rp_cfg.now ≡ v.rp_cfg.now
  pub wiener : w.wiener_ref ≡ v.wiener_ref
  pub sgrproj : w.sgrproj_ref ≡ v.sgrproj_ref
  pub entries : view_entries w.units ≡ drop (place_under v.units 0 0) (entries_under v.units)
  pub step : view_step w.units ≡ (table_under v.units).cols
  pub x : view_x w.units ≡ (window v.units).x
  pub y : view_y w.units ≡ (window v.units).y
  pub cols : view_cols w.units ≡ (window v.units).cols
  pub rows : view_rows w.units ≡ (window v.units).rows

-- a rectangle of units, as far as the table of a plane with this layout goes
abbrev pub rect_in_table : RestorationPlaneConfig → TileRect → TileRect
rect_in_table layout rect = record rect {
  width = min rect.width (layout.cols - rect.x);
  height = min rect.height (layout.rows - rect.y);
}

-- a view of the units that were cut out, as far as the table of their layout goes
abbrev pub ShowsUnitPart : RestorationPlaneConfig → Part RestorationUnit → TileRestorationPlane → Type 0
ShowsUnitPart layout part v = ShowsUnits layout part.entries part.rect.width (rect_in_table layout part.rect) v

-- the window of such a view; a rectangle that begins past the table has no unit in it
abbrev pub part_window : RestorationPlaneConfig → TileRect → Window
part_window layout rect = cut_window rect (max layout.cols rect.x) (max layout.rows rect.y)

-- a view of them for writing
abbrev pub LendsUnitPart : RestorationPlaneConfig → Part RestorationUnit → TileRestorationPlaneMut → Type 0
LendsUnitPart layout part v = LendsUnits layout part.entries part.rect.width (part_window layout part.rect) v
