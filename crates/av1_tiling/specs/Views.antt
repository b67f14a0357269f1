-- What a tile coder sees of a frame, as plain data: samples are numbers, and no storage is in it.
use Rattle.std.specs.List.{AllZip}
use Rattle.std.specs.Prelude.{ℕ, ℤ, ◌*◌, List, map, length, if◌then◌else◌, ◌==◌, ◌≡◌}
use Rattle.av1_plane.specs.declared.three.Three.{Three}
use Rattle.av1_plane.specs.declared.plane.PlaneConfig.{PlaneConfig}
use Rattle.av1_plane.specs.declared.plane.Plane.{Plane}
use Rattle.av1_plane.specs.declared.frame.Frame.{Frame}
use Rattle.av1_block.specs.declared.block.Block.{Block}
use Rattle.av1_block.specs.declared.coded_block_info.CodedBlockInfo.{CodedBlockInfo}
use Rattle.av1_block.specs.declared.me_stats.MEStats.{MEStats}
use Rattle.av1_block.specs.declared.restoration_unit.RestorationUnit.{RestorationUnit}
use Rattle.av1_plane.specs.declared.tile_rect.TileRect.{TileRect}
use Rattle.av1_block.specs.declared.cut.Cut.{Cut}
use Rattle.av1_block.specs.Cut.{cut_entries, cut_rect, cut_table_cols}
use Rattle.av1_block.specs.Rows.{Rows, refilled}
use Rattle.av1_tiling.specs.declared.deblock_state.DeblockState.{DeblockState}
use Rattle.av1_tiling.specs.declared.segmentation_state.SegmentationState.{SegmentationState}
use Rattle.av1_tiling.specs.declared.restoration_plane.RestorationPlaneConfig.{RestorationPlaneConfig}
use Rattle.av1_tiling.specs.declared.part_place.PartPlace.{PartPlace}
use Rattle.av1_tiling.specs.declared.plane_part.PlanePart.{PlanePart}
use Rattle.av1_tiling.specs.PlaneParts.{part_rect, part_stride, part_samples}

-- a plane: its layout and the numbers of its stored samples
pub record PlaneView : Type 0 where
  pub cfg : PlaneConfig
  pub samples : List ℤ

-- a plane as plain data
abbrev pub view_plane : {X : Type 0} → (X → ℤ) → Plane X → PlaneView
view_plane number p = record { cfg = p.cfg; samples = map number p.samples.items }

-- the planes of a frame as plain data
abbrev pub view_frame : {X : Type 0} → (X → ℤ) → Frame X → Three PlaneView
view_frame number f = record { y = view_plane number f.planes.y; u = view_plane number f.planes.u; v = view_plane number f.planes.v }

-- a plane has as many samples as its layout says
abbrev pub IsFull : PlaneView → Type 0
IsFull p = length p.samples ≡ p.cfg.stride * p.cfg.alloc_height

-- each plane of a frame has as many samples as its layout says
pub record AreFull (f : Three PlaneView) : Type 0 where
  pub y : IsFull f.y
  pub u : IsFull f.u
  pub v : IsFull f.v

-- a table has an entry for each of its places
abbrev pub IsFullTable : {E : Type 0} → Rows E → Type 0
IsFullTable t = length t.entries ≡ t.cols * t.rows

-- a rectangle of a table, cut out: its place, the columns of the table, and its entries row by row
pub record Part (E : Type 0) : Type 0 where
  pub rect : TileRect
  pub table_cols : ℕ
  pub entries : List E

-- a cut as plain data
abbrev pub view_cut : {E : Type 0} → Cut E → Part E
view_cut c = record { rect = cut_rect c; table_cols = cut_table_cols c; entries = cut_entries c }

-- a part of a plane as plain data, its samples as numbers
abbrev pub view_samples : {X : Type 0} → (X → ℤ) → PlanePart X → Part ℤ
view_samples number p = record { rect = part_rect p; table_cols = part_stride p; entries = map number (part_samples p) }

-- the cuts of the restoration units of three planes as plain data
abbrev pub view_units : Three (Cut RestorationUnit) → Three (Part RestorationUnit)
view_units t = record { y = view_cut t.y; u = view_cut t.u; v = view_cut t.v }

-- the parts of three planes as plain data
abbrev pub view_parts : {X : Type 0} → (X → ℤ) → Three (PlanePart X) → Three (Part ℤ)
view_parts number t = record { y = view_samples number t.y; u = view_samples number t.u; v = view_samples number t.v }

-- a tile's parts of the tables of motion records, and the sides of these tables
pub record Motion : Type 0 where
  pub parts : List (Part MEStats)
  pub mi_cols : ℕ
  pub mi_rows : ℕ

-- the part with these entries, as many as before
abbrev pub part_with_entries : {E : Type 0} → Part E → List E → Part E
part_with_entries p entries = record p { entries = refilled p.entries entries }

-- the part of a frame's state that one tile is coded from: the place and the sides of the tile, the input, copies of the
-- states of deblocking and segmentation and of how restoration units lie, what is known of the tile's coded units, and
-- the tile's samples, restoration units and motion records, which are put back, with the places of the samples in the
-- frame's planes and the sides of the tables of motion records
pub record TileState : Type 0 where
  pub superblock : ℕ × ℕ
  pub sb_size_log2 : ℕ
  pub sb_width : ℕ
  pub sb_height : ℕ
  pub mi_width : ℕ
  pub mi_height : ℕ
  pub width : ℕ
  pub height : ℕ
  pub input : Three PlaneView
  pub input_hres : PlaneView
  pub input_qres : PlaneView
  pub deblock : DeblockState
  pub segmentation : SegmentationState
  pub coded_block_info : Rows CodedBlockInfo
  pub rec : Three (Part ℤ)
  pub places : Three PartPlace
  pub units : Three (Part RestorationUnit)
  pub unit_layouts : Three RestorationPlaneConfig
  pub me_stats : List (Part MEStats)
  pub mi_cols : ℕ
  pub mi_rows : ℕ

-- what one tile is coded from: its part of a frame's state, and its blocks out of a table of these sides
pub record View : Type 0 where
  pub ts : TileState
  pub blocks : Part Block
  pub frame_cols : ℕ
  pub frame_rows : ℕ

-- one of three planes; the last for every number from 2 on
abbrev pub plane_at : {X : Type 0} → Three X → ℕ → X
plane_at t pli = if pli == 0 then t.y else if pli == 1 then t.u else t.v

-- a tile's state with these samples in plane pli
abbrev pub with_samples : TileState → ℕ → List ℤ → TileState
with_samples t pli samples =
    if pli == 0 then record t { rec = record t.rec { y = part_with_entries t.rec.y samples } }
    else if pli == 1 then record t { rec = record t.rec { u = part_with_entries t.rec.u samples } }
    else record t { rec = record t.rec { v = part_with_entries t.rec.v samples } }

-- a tile's state with these restoration units in plane pli
abbrev pub with_units : TileState → ℕ → List RestorationUnit → TileState
with_units t pli units =
    if pli == 0 then record t { units = record t.units { y = part_with_entries t.units.y units } }
    else if pli == 1 then record t { units = record t.units { u = part_with_entries t.units.u units } }
    else record t { units = record t.units { v = part_with_entries t.units.v units } }

-- a view with these blocks
abbrev pub with_blocks : View → List Block → View
with_blocks v blocks = record v { blocks = part_with_entries v.blocks blocks }

-- the table of a part alone
abbrev pub part_table : {E : Type 0} → Part E → Rows E
part_table p = record { entries = p.entries; cols = p.rect.width; rows = p.rect.height }

-- the part with this table in place of its own, from the same place on
abbrev pub part_with_table : {E : Type 0} → Part E → Rows E → Part E
part_with_table p t = record {
  rect = record { x = p.rect.x; y = p.rect.y; width = t.cols; height = t.rows };
  table_cols = p.table_cols;
  entries = t.entries;
}

-- a view with this table of blocks in place of its own
abbrev pub with_block_table : View → Rows Block → View
with_block_table v table = record v { blocks = part_with_table v.blocks table }

-- b has the rectangle of a and as many entries
pub record SameRect {E : Type 0} (a b : Part E) : Type 0 where
  pub rect : b.rect ≡ a.rect
  pub table_cols : b.table_cols ≡ a.table_cols
  pub length : length b.entries ≡ length a.entries

-- after may differ from before in all but its rectangles and the sides of the tables that its parts were cut from
pub record SameShape (before after : View) : Type 0 where
  pub y : SameRect before.ts.rec.y after.ts.rec.y
  pub u : SameRect before.ts.rec.u after.ts.rec.u
  pub v : SameRect before.ts.rec.v after.ts.rec.v
  pub y_units : SameRect before.ts.units.y after.ts.units.y
  pub u_units : SameRect before.ts.units.u after.ts.units.u
  pub v_units : SameRect before.ts.units.v after.ts.units.v
  pub motion : AllZip SameRect before.ts.me_stats after.ts.me_stats
  pub mi_cols : after.ts.mi_cols ≡ before.ts.mi_cols
  pub mi_rows : after.ts.mi_rows ≡ before.ts.mi_rows
  pub blocks : SameRect before.blocks after.blocks
  pub frame_cols : after.frame_cols ≡ before.frame_cols
  pub frame_rows : after.frame_rows ≡ before.frame_rows
