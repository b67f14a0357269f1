-- What the filters and the coder take a frame to be: what stays while it is coded, what changes, and the conditions
-- under which both fit together. Samples are numbers, and no storage is in it.
use Rattle.std.specs.Prelude.{ℕ, zero, suc, ℤ, pos, replicate, ◌+◌, ◌*◌, ◌/◌, ◌^◌, ◌<◌, ◌≤◌, ◌≡◌, ◌==◌, ◌||◌, ◌⊎◌, Bool, true, false, IsTrue, List, [], ◌∷◌, ◌++◌, length, map, All, Some, if◌then◌else◌}
use Rattle.std.specs.Int.{div_ceil}
use Rattle.av1_plane.specs.Numbers.{InDepth}
use Rattle.av1_plane.specs.Layout.{frame_layout, at, rounded}
use Rattle.av1_plane.specs.declared.three.Three.{Three}
use Rattle.av1_plane.specs.declared.plane.PlaneConfig.{PlaneConfig}
use Rattle.av1_plane.specs.declared.sampling.ChromaSampling.{ChromaSampling}
use Rattle.av1_plane.specs.declared.sampling.ChromaSampling.TheVariants.{Cs422}
use Rattle.av1_plane.specs.declared.tile_rect.TileRect.{TileRect}
use Rattle.av1_block.specs.declared.block.Block.{Block}
use Rattle.av1_block.specs.declared.me_stats.MEStats.{MEStats}
use Rattle.av1_block.specs.declared.restoration_unit.RestorationUnit.{RestorationUnit}
use Rattle.av1_block.specs.Rows.{Rows}
use Rattle.av1_block.specs.Cut.{cut_of}
use Rattle.av1_tiling.specs.declared.deblock_state.DeblockState.{DeblockState}
use Rattle.av1_tiling.specs.Deblock.{default_deblock}
use Rattle.av1_tiling.specs.declared.segmentation_state.SegmentationState.{SegmentationState}
use Rattle.av1_tiling.specs.Segmentation.{default_segmentation}
use Rattle.av1_tiling.specs.Motion.{blank_motion}
use Rattle.av1_tiling.specs.declared.tiling_info.TilingInfo.{TilingInfo}
use Rattle.av1_tiling.specs.Grid.{grid, superblock_log2, IsBuiltSide}
use Rattle.av1_plane.specs.Area.{decimated_tile}
use Rattle.av1_tiling.specs.FitsUnits.{FitsUnits}
use Rattle.av1_tiling.specs.TileRects.{units_rect, superblock_columns, superblock_rows, samples_rect, motion_rect, tile_superblock, tile_luma, tile_blocks, block_columns, block_rows}
pub use Rattle.av1_tiling.specs.Parameters.{Parameters}
use Rattle.av1_tiling.specs.Restoration.{Units, layouts_of}
use Rattle.av1_tiling.specs.UnitInfos.{blank_infos}
use Rattle.av1_tiling.specs.UnitSizes.{AreUnitsFor, start_units}
use Rattle.av1_tiling.specs.declared.part_place.PartPlace.{PartPlace}
use Rattle.av1_tiling.specs.Views.{PlaneView, Part, TileState, View, IsFullTable}

-- what changes while a frame is coded
pub record State : Type 0 where
  pub input : Three PlaneView
  pub input_hres : PlaneView
  pub input_qres : PlaneView
  pub rec : Three PlaneView
  pub context_update_tile_id : ℕ
  pub max_tile_size_bytes : ℕ
  pub deblock : DeblockState
  pub segmentation : SegmentationState
  pub restoration : Three Units
  pub frame_me_stats : List (Rows MEStats)

-- eight tables of motion records, one for each reference, with these sides
pub record AreMotionTables (cols rows : ℕ) (tables : List (Rows MEStats)) : Type 0 where
  pub count : length tables ≡ 8
  pub sides : All (λ t. (t.cols ≡ cols) × (t.rows ≡ rows)) tables
  pub full : All IsFullTable tables

-- the sample type of a bit depth: bytes at 8 bits, else words
abbrev pub FitsDepth : (limit depth : ℕ) → Type 0
FitsDepth limit depth = ((depth ≡ 8) × (limit ≡ 256)) ⊎ (((depth ≡ 10) ⊎ (depth ≡ 12)) × (limit ≡ 65536))

-- whether the sampling is 4:2:2
abbrev pub is_422 : ChromaSampling → Bool
is_422 Cs422 = true
is_422 sampling = false

-- the logarithm of the side of a frame's superblocks
abbrev pub superblock_side_log2 : Parameters → ℕ
superblock_side_log2 p = superblock_log2 p.sequence.use_128x128_superblock

-- the frame's tiling is the grid of its sides at some rate and for some wanted tiles
abbrev pub IsTiling : Parameters → Type 0
IsTiling p =
    (num : ℕ) × (den : ℕ) × (cols : ℕ) × (rows : ℕ)
    × (grid (superblock_side_log2 p) p.width p.height num den cols rows (is_422 p.sequence.chroma_sampling)
    ≡ Some p.sequence.tiling)

-- the parameters belong to one frame, whose samples are below limit
pub record IsFrame (limit : ℕ) (p : Parameters) : Type 0 where
  pub width : (1 ≤ p.width) × (p.width ≤ 65536)
  pub height : (1 ≤ p.height) × (p.height ≤ 65536)
  pub depth : FitsDepth limit p.sequence.bit_depth
  pub superblock : p.sequence.use_128x128_superblock ≡ false
  pub columns : p.w_in_b ≡ rounded p.width / 4
  pub rows : p.h_in_b ≡ rounded p.height / 4
  pub superblock_columns : p.sb_width ≡ div_ceil p.width (2 ^ superblock_side_log2 p)
  pub superblock_rows : p.sb_height ≡ div_ceil p.height (2 ^ superblock_side_log2 p)
  pub y_strengths : All (λ s. s ≤ 63) p.cdef_y_strengths
  pub uv_strengths : All (λ s. s ≤ 63) p.cdef_uv_strengths
  pub damping : (3 ≤ p.cdef_damping) × (p.cdef_damping ≤ 6)
  pub tiling : IsTiling p
  pub large_units : IsTrue p.sequence.enable_large_lru → IsTrue p.sequence.enable_restoration → (2 ≤ p.width) × (2 ≤ p.height)

-- the layouts of a frame's planes
abbrev pub layouts : Three PlaneView → Three PlaneConfig
layouts f = record { y = f.y.cfg; u = f.u.cfg; v = f.v.cfg }

-- the samples inside a plane, its margin left out, are below a bound
abbrev pub IsInRange : ℕ → PlaneView → Type 0
IsInRange bound p =
    (x y : ℕ) → x < p.cfg.width → y < p.cfg.height
    → InDepth bound (at p.samples p.cfg.stride (p.cfg.xorigin + x) (p.cfg.yorigin + y))

-- a state is made for a frame
pub record IsStateFor (p : Parameters) (s : State) : Type 0 where
  pub input : layouts s.input ≡ frame_layout p.width p.height p.sequence.chroma_sampling
  pub rec : layouts s.rec ≡ frame_layout p.width p.height p.sequence.chroma_sampling
  pub y_range : IsInRange (2 ^ p.sequence.bit_depth) s.input.y
  pub u_range : IsInRange (2 ^ p.sequence.bit_depth) s.input.u
  pub v_range : IsInRange (2 ^ p.sequence.bit_depth) s.input.v
  pub restoration : AreUnitsFor p s.restoration
  pub motion : AreMotionTables p.w_in_b p.h_in_b s.frame_me_stats
  pub shift : s.deblock.block_delta_shift ≤ 3

-- a block table is made for a frame
pub record AreBlocksFor (p : Parameters) (table : Rows Block) : Type 0 where
  pub columns : table.cols ≡ p.w_in_b
  pub rows : table.rows ≡ p.h_in_b

-- a state and a block table are made for a frame
pub record IsMadeFor (p : Parameters) (s : State) (table : Rows Block) : Type 0 where
  pub state : IsStateFor p s
  pub blocks : AreBlocksFor p table

-- planes that can be the input of a frame
pub record IsInputFor (p : Parameters) (f : Three PlaneView) : Type 0 where
  pub layout : layouts f ≡ frame_layout p.width p.height p.sequence.chroma_sampling
  pub y_range : IsInRange (2 ^ p.sequence.bit_depth) f.y
  pub u_range : IsInRange (2 ^ p.sequence.bit_depth) f.u
  pub v_range : IsInRange (2 ^ p.sequence.bit_depth) f.v

-- a plane of this layout, all samples zero
abbrev pub blank : PlaneConfig → PlaneView
blank cfg = record { cfg = cfg; samples = replicate (cfg.stride * cfg.alloc_height) (pos 0) }

-- the planes of a frame of these sides, all samples zero
abbrev pub blank_frame : ℕ → ℕ → ChromaSampling → Three PlaneView
blank_frame width height sampling =
    let layout = frame_layout width height sampling in record { y = blank layout.y; u = blank layout.u; v = blank layout.v }

-- the state that coding a frame with this input begins with
abbrev pub start : Parameters → Three PlaneView → (hres qres : PlaneView) → State
start p input hres qres = record {
  input = input;
  input_hres = hres;
  input_qres = qres;
  rec = blank_frame p.width p.height p.sequence.chroma_sampling;
  context_update_tile_id = 0;
  max_tile_size_bytes = 0;
  deblock = default_deblock;
  segmentation = default_segmentation;
  restoration = start_units p;
  frame_me_stats = replicate 8 (blank_motion p.w_in_b p.h_in_b);
}

-- the empty rectangle
abbrev pub no_rect : TileRect
no_rect = record { x = 0; y = 0; width = 0; height = 0 }

-- a rectangle moved by these numbers of columns and rows
abbrev pub shifted_rect : ℕ → ℕ → TileRect → TileRect
shifted_rect x y rect = record rect { x = x + rect.x; y = y + rect.y }

-- where a rectangle of luma samples lies in the stored rows of a plane; an empty plane has none of it
abbrev pub stored_rect : PlaneConfig → TileRect → TileRect
stored_rect cfg luma =
    if (cfg.width == 0) || (cfg.height == 0) then no_rect
    else shifted_rect cfg.xorigin cfg.yorigin (decimated_tile luma cfg.xdec cfg.ydec)

-- a rectangle of a table with `cols` columns, cut out
abbrev pub part_at : {E : Type 0} → List E → ℕ → TileRect → Part E
part_at table cols rect = record { rect = rect; table_cols = cols; entries = cut_of table cols rect.x rect.y rect.width rect.height }

-- the part of a plane that a rectangle of luma samples covers
abbrev pub plane_part : PlaneView → TileRect → Part ℤ
plane_part p luma = part_at p.samples p.cfg.stride (stored_rect p.cfg luma)

-- the parts of a frame's planes that a rectangle of luma samples covers
abbrev pub frame_parts : Three PlaneView → TileRect → Three (Part ℤ)
frame_parts f luma = record { y = plane_part f.y luma; u = plane_part f.u luma; v = plane_part f.v luma }

-- where the part of a plane that a rectangle of luma samples covers stands; at the origin of an empty plane
abbrev pub plane_part_place : PlaneConfig → TileRect → PartPlace
plane_part_place cfg luma =
    if (cfg.width == 0) || (cfg.height == 0) then record { cfg = cfg; x = pos 0; y = pos 0 }
    else (let rect = decimated_tile luma cfg.xdec cfg.ydec in record { cfg = cfg; x = pos rect.x; y = pos rect.y })

-- the places of all planes' parts
abbrev pub part_places : Three PlaneView → TileRect → Three PartPlace
part_places f luma = record { y = plane_part_place f.y.cfg luma; u = plane_part_place f.u.cfg luma; v = plane_part_place f.v.cfg luma }

-- a rectangle of each table of motion records, cut out
abbrev pub motion_parts : List (Rows MEStats) → TileRect → List (Part MEStats)
motion_parts tables rect = map (λ t. part_at t.entries t.cols rect) tables

-- the part of a plane's units that a tile of these superblocks covers
abbrev pub unit_part : Units → (superblock superblocks : ℕ × ℕ) → Part RestorationUnit
unit_part u superblock superblocks =
    part_at u.entries u.cols (units_rect superblock superblocks (u.cfg.sb_h_shift, u.cfg.sb_v_shift) (u.cols, u.rows))

-- the parts of all planes' units that a tile of these superblocks covers
abbrev pub unit_parts : Three Units → (superblock superblocks : ℕ × ℕ) → Three (Part RestorationUnit)
unit_parts s superblock superblocks = record {
  y = unit_part s.y superblock superblocks;
  u = unit_part s.u superblock superblocks;
  v = unit_part s.v superblock superblocks;
}

-- a plane's units can be cut: there are as many as the table's sides say, and a unit has at most 2^8 superblocks a side
pub record CanCutUnits (u : Units) : Type 0 where
  pub whole : length u.entries ≡ u.cols * u.rows
  pub across : u.cfg.sb_h_shift ≤ 8
  pub down : u.cfg.sb_v_shift ≤ 8

-- a table holds a rectangle
pub record HoldsRect {E : Type 0} (rect : TileRect) (table : Rows E) : Type 0 where
  pub across : rect.x + rect.width ≤ table.cols
  pub down : rect.y + rect.height ≤ table.rows

-- the part of a plane that a luma rectangle covers is stored
pub record PartFits (cfg : PlaneConfig) (luma : TileRect) : Type 0 where
  pub columns : (stored_rect cfg luma).x + (stored_rect cfg luma).width ≤ cfg.stride
  pub rows : (stored_rect cfg luma).y + (stored_rect cfg luma).height ≤ cfg.alloc_height
  pub xdec : cfg.xdec ≤ 1
  pub ydec : cfg.ydec ≤ 1
  pub x : cfg.xorigin + luma.x < 2 ^ 32
  pub y : cfg.yorigin + luma.y < 2 ^ 32

-- the tile with this first superblock and these luma sides lies in the frame of a state
pub record LiesInFrame (s : State) (superblock : ℕ × ℕ) (sb_size_log2 width height : ℕ) : Type 0 where
  pub frame_width : ℕ
  pub frame_height : ℕ
  pub sampling : ChromaSampling
  pub layout : layouts s.rec ≡ frame_layout frame_width frame_height sampling
  pub motion : AreMotionTables (rounded frame_width / 4) (rounded frame_height / 4) s.frame_me_stats
  pub y_units : CanCutUnits s.restoration.y
  pub u_units : CanCutUnits s.restoration.u
  pub v_units : CanCutUnits s.restoration.v
  pub width_limit : frame_width ≤ 65536
  pub height_limit : frame_height ≤ 65536
  pub wide : superblock.0 * 2 ^ sb_size_log2 + width ≤ rounded frame_width
  pub high : superblock.1 * 2 ^ sb_size_log2 + height ≤ rounded frame_height

-- what a tile with this first superblock and these luma sides is coded from
abbrev pub tile_state : State → ℕ × ℕ → (sb_size_log2 width height : ℕ) → TileState
tile_state s superblock sb_size_log2 width height =
    let side = 2 ^ sb_size_log2 in
    record {
      superblock = superblock;
      sb_size_log2 = sb_size_log2;
      sb_width = div_ceil width side;
      sb_height = div_ceil height side;
      mi_width = width / 4;
      mi_height = height / 4;
      width = width;
      height = height;
      input = s.input;
      input_hres = s.input_hres;
      input_qres = s.input_qres;
      deblock = s.deblock;
      segmentation = s.segmentation;
      coded_block_info = blank_infos (width / 4) (height / 4);
      rec = frame_parts s.rec (samples_rect superblock sb_size_log2 width height);
      places = part_places s.rec (samples_rect superblock sb_size_log2 width height);
      units = unit_parts s.restoration superblock (div_ceil width side, div_ceil height side);
      unit_layouts = layouts_of s.restoration;
      me_stats = motion_parts s.frame_me_stats (motion_rect superblock sb_size_log2 width height);
      mi_cols = s.rec.y.cfg.width / 4;
      mi_rows = s.rec.y.cfg.height / 4;
    }

-- the starting view of tile n: what the state and the block table hold inside its rectangles
abbrev pub view_of : TilingInfo → State → List Block → ℕ → View
view_of t s blocks n = record {
  ts = tile_state s (tile_superblock t n) t.sb_size_log2 (tile_luma t n).width (tile_luma t n).height;
  blocks = part_at blocks (block_columns t) (tile_blocks t n);
  frame_cols = block_columns t;
  frame_rows = block_rows t;
}

-- the starting views of the first n tiles
unfoldable pub views_below : TilingInfo → State → List Block → ℕ → List View
views_below t s blocks zero = []
views_below t s blocks (suc n) = views_below t s blocks n ++ view_of t s blocks n ∷ []

-- the starting views of all tiles
abbrev pub views : TilingInfo → State → List Block → List View
views t s blocks = views_below t s blocks (t.cols * t.rows)

-- a plane's units lie in whole tiles: each of several tiles begins with a unit, and the units are no more than cover the frame
pub record AreTileUnits (t : TilingInfo) (u : Units) : Type 0 where
  pub units : CanCutUnits u
  pub across : FitsUnits u.cfg.sb_h_shift u.cols t.cols t.tile_width_sb (superblock_columns t)
  pub down : FitsUnits u.cfg.sb_v_shift u.rows t.rows t.tile_height_sb (superblock_rows t)

-- the tiling of some frame whose state this is and whose block table has these sides
pub record IsTilingOf (t : TilingInfo) (s : State) (cols rows : ℕ) : Type 0 where
  pub width : ℕ
  pub height : ℕ
  pub num : ℕ
  pub den : ℕ
  pub target_cols : ℕ
  pub target_rows : ℕ
  pub sampling : ChromaSampling
  pub tiling : grid t.sb_size_log2 width height num den target_cols target_rows (is_422 sampling) ≡ Some t
  pub built : IsBuiltSide t.sb_size_log2
  pub layout : layouts s.rec ≡ frame_layout width height sampling
  pub motion : AreMotionTables cols rows s.frame_me_stats
  pub y_units : AreTileUnits t s.restoration.y
  pub u_units : AreTileUnits t s.restoration.u
  pub v_units : AreTileUnits t s.restoration.v
  pub wide : cols ≡ block_columns t
  pub high : rows ≡ block_rows t
