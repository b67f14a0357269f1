-- The text of a frame's tile grid: the numbers of columns and rows, a tile's sides in superblocks, and for each tile the
-- luma samples of its view and its blocks (AV1 specification, section 5.9.15).
use Rattle.std.specs.Prelude.{ℕ, zero, suc, ◌*◌, List, [], ◌++◌, codes}
use Rattle.av1_plane.specs.declared.tile_rect.TileRect.{TileRect}
use Rattle.av1_tiling.specs.declared.tiling_info.TilingInfo.{TilingInfo}
use Rattle.av1_tiling.specs.TileRects.{tile_samples, tile_blocks}
use Rattle.av1_rec.specs.Report.{spaced}

-- ` X Y WIDTH HEIGHT`: a rectangle's place and sides
unfoldable pub rect_text : TileRect → List ℕ
rect_text r = spaced r.x ++ spaced r.y ++ spaced r.width ++ spaced r.height

-- `tile N`, the luma samples of the tile's view, and its blocks
unfoldable pub tile_text : TilingInfo → ℕ → List ℕ
tile_text t n = codes "tile" ++ spaced n ++ rect_text (tile_samples t n) ++ rect_text (tile_blocks t n) ++ codes "\n"

-- the lines of the first n tiles
unfoldable pub tile_texts : TilingInfo → ℕ → List ℕ
tile_texts t zero = []
tile_texts t (suc n) = tile_texts t n ++ tile_text t n

-- `grid COLS ROWS WIDTH HEIGHT`: the grid's columns and rows, and a tile's sides in superblocks
unfoldable pub grid_line : TilingInfo → List ℕ
grid_line t = codes "grid" ++ spaced t.cols ++ spaced t.rows ++ spaced t.tile_width_sb ++ spaced t.tile_height_sb ++ codes "\n"

-- the whole grid
unfoldable pub grid_text : TilingInfo → List ℕ
grid_text t = grid_line t ++ tile_texts t (t.cols * t.rows) ++ codes "end\n"
