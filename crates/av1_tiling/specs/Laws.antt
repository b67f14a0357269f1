-- What holds of every tiling.
use Rattle.av1_block.specs.declared.block.Block.{Block}
pub use Rattle.av1_tiling.specs.FitsUnits.{FitsUnits}
use Rattle.av1_tiling.specs.Views.{Part, View, SameShape, AreFull}
use Rattle.av1_tiling.specs.declared.restoration_plane.RestorationPlaneConfig.{RestorationPlaneConfig}
use Rattle.av1_tiling.specs.UnitSizes.{unit_layouts}
use Rattle.av1_tiling.specs.Frames.{Parameters, State, IsFrame, IsTilingOf, view_of}
use Rattle.av1_tiling.specs.Puts.{put, put_all, put_cuts, put_motion, put_units}
use Rattle.av1_tiling.specs.Coded.{HasParts, IsTablePart, ArePartsApart}
use Rattle.std.specs.List.Sorted.{IsPermutation}
use Rattle.std.specs.Prelude.{ℕ, List, length, All, Bool, Some, ◌≡◌, ◌≢◌, ◌*◌, ◌/◌, ◌^◌, ◌<◌, ◌≤◌}
use Rattle.av1_tiling.specs.Least.{tile_log2}
use Rattle.av1_tiling.specs.Grid.{grid}
use Rattle.av1_tiling.specs.Partition.{Partitions}
use Rattle.av1_tiling.specs.TileRects.{superblock_side, superblock_columns, superblock_rows, block_columns, block_rows, tile_plane, tile_blocks, tile_motion, tile_units}
use Rattle.av1_tiling.specs.declared.tiling_info.TilingInfo.{TilingInfo}

-- what holds of each tiling that there is of any frame
abbrev pub ForTilings : (TilingInfo → Type 0) → Type 0
ForTilings P =
    (s width height num den target_cols target_rows : ℕ) (is_422 : Bool) (t : TilingInfo)
    → grid s width height num den target_cols target_rows is_422 ≡ Some t → P t

-- the tiles of a plane cut it, rounded up to whole superblocks, into parts
abbrev pub CutsPlanes : TilingInfo → Type 0
CutsPlanes t =
    (xdec ydec : ℕ) → xdec ≤ 1 → ydec ≤ 1
    → Partitions (tile_plane t xdec ydec) (t.cols * t.rows)
    (superblock_columns t * superblock_side t / 2 ^ xdec) (superblock_rows t * superblock_side t / 2 ^ ydec)

-- the tiles cut the table of blocks into parts
abbrev pub CutsBlocks : TilingInfo → Type 0
CutsBlocks t = Partitions (tile_blocks t) (t.cols * t.rows) (block_columns t) (block_rows t)

-- the tiles cut each table of motion records into parts
abbrev pub CutsMotion : TilingInfo → Type 0
CutsMotion t = Partitions (tile_motion t) (t.cols * t.rows) (block_columns t) (block_rows t)

-- the tiles cut a table of restoration units into parts, where the units fit the tiles
abbrev pub CutsUnits : TilingInfo → Type 0
CutsUnits t =
    (h_shift v_shift columns rows : ℕ)
    → FitsUnits h_shift columns t.cols t.tile_width_sb (superblock_columns t)
    → FitsUnits v_shift rows t.rows t.tile_height_sb (superblock_rows t)
    → Partitions (tile_units t h_shift v_shift columns rows) (t.cols * t.rows) columns rows

-- the tiles cut a table of units with this layout into parts
abbrev pub CutsLayout : TilingInfo → RestorationPlaneConfig → Type 0
CutsLayout t cfg =
    Partitions (tile_units t cfg.sb_h_shift cfg.sb_v_shift cfg.cols cfg.rows) (t.cols * t.rows) cfg.cols cfg.rows

-- the tiles of a frame cut the units of each plane into parts
pub record CutsFrameUnits (p : Parameters) : Type 0 where
  pub y : CutsLayout p.sequence.tiling (unit_layouts p).y
  pub u : CutsLayout p.sequence.tiling (unit_layouts p).u
  pub v : CutsLayout p.sequence.tiling (unit_layouts p).v

-- the tiles of every frame, of any sides, sampling and quantiser, cut its units into parts
abbrev pub FramesCutUnits : Type 0
FramesCutUnits = (limit : ℕ) (p : Parameters) → IsFrame limit p → CutsFrameUnits p

-- the logarithms of a tiling are those of its numbers of columns and rows
abbrev pub CountsByLog2 : TilingInfo → Type 0
CountsByLog2 t = (tile_log2 1 t.cols ≡ t.tile_cols_log2) × (tile_log2 1 t.rows ≡ t.tile_rows_log2)

-- a table has at most one list of entries that has these parts
abbrev pub PartsAreUnique : Type 0 → Type 0
PartsAreUnique E = (cols : ℕ) (parts : List (Part E)) (old new other : List E) → HasParts cols parts old new → HasParts cols parts old other → new ≡ other

-- parts with no place in common, put in one after another, are all in the table
abbrev pub PutsHaveParts : Type 0 → Type 0
PutsHaveParts E = (cols : ℕ) (parts : List (Part E)) (table : List E) → All (IsTablePart (length table) cols) parts → ArePartsApart parts
    → HasParts cols parts table (put_all table parts)

-- parts with no place in common make one table in whatever order they are put in
abbrev pub PutsInAnyOrder : Type 0 → Type 0
PutsInAnyOrder E = (cols : ℕ) (parts other : List (Part E)) (table : List E) → All (IsTablePart (length table) cols) parts → ArePartsApart parts
    → IsPermutation parts other → put_all table parts ≡ put_all table other

-- a state with what a view has of it put back
abbrev pub with_view : State → View → State
with_view s v = record s {
  rec = put_cuts s.rec v.ts.rec;
  frame_me_stats = put_motion s.frame_me_stats v.ts.me_stats;
  restoration = put_units s.restoration v.ts.units;
}

-- what is written through the view of one tile changes the view of no other
abbrev pub OthersStay : Type 0
OthersStay =
    (t : TilingInfo) (s : State) (blocks : List Block) (cols rows m n : ℕ) (written : View)
    → IsTilingOf t s cols rows → AreFull s.rec → length blocks ≡ cols * rows
    → m < t.cols * t.rows → n < t.cols * t.rows → m ≢ n → SameShape (view_of t s blocks m) written
    → view_of t (with_view s written) (put blocks written.blocks) n ≡ view_of t s blocks n
