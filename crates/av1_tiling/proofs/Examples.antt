-- Worked examples of the grid and of the rectangles of its tiles.
use Rattle.std.proofs.Common.{◌≡◌, ℕ, true, false, Option, Some, None, List, [], ◌∷◌, refl}
use Rattle.av1_plane.specs.declared.tile_rect.TileRect.{TileRect}
use Rattle.av1_tiling.specs.declared.tiling_info.TilingInfo.{TilingInfo}
use Rattle.av1_tiling.specs.Least.{least, tile_log2}
use Rattle.av1_tiling.specs.Grid.{grid, rate_log2, tile_width}
use Rattle.av1_tiling.specs.TileRects.{tile_blocks, tile_samples, tile_plane}

-- a small frame, one tile to a superblock
abbrev small : TilingInfo
small = record {
  frame_width = 160;
  frame_height = 144;
  tile_width_sb = 1;
  tile_height_sb = 1;
  cols = 3;
  rows = 3;
  tile_cols_log2 = 2;
  tile_rows_log2 = 2;
  min_tile_cols_log2 = 0;
  max_tile_cols_log2 = 2;
  min_tile_rows_log2 = 0;
  max_tile_rows_log2 = 2;
  sb_size_log2 = 6;
  min_tiles_log2 = 0;
}

-- A rectangle by its place and its sides.
abbrev rect : ℕ → ℕ → ℕ → ℕ → TileRect
rect x y width height = record { x = x; y = y; width = width; height = height }

-- columns and rows of tiles, and a tile's sides in superblocks
abbrev shape : Option TilingInfo → List ℕ
shape (Some t) = t.cols ∷ t.rows ∷ t.tile_width_sb ∷ t.tile_height_sb ∷ []
shape None = []

-- targets past the limits are cut to them
nine_tiles : grid 6 160 144 25 1 10 8 false ≡ Some small
unfolding rate_log2 tile_width least tile_log2
nine_tiles = refl

-- a frame of 160 by 144 in superblocks of 128 samples has four tiles
four_tiles : grid 7 160 144 25 1 10 8 false ≡ Some (record small {
  cols = 2;
  rows = 2;
  tile_cols_log2 = 1;
  tile_rows_log2 = 1;
  max_tile_cols_log2 = 1;
  max_tile_rows_log2 = 1;
  sb_size_log2 = 7;
})
unfolding rate_log2 tile_width least tile_log2
four_tiles = refl

-- The greatest frame has 16 columns and 32 rows of tiles where none are asked for.
greatest_frame : shape (grid 7 65536 65536 25 1 0 0 false) ≡ 16 ∷ 32 ∷ 32 ∷ 16 ∷ []
unfolding rate_log2 tile_width least tile_log2
greatest_frame = refl

-- the rate alone asks for 64 rows
many_rows : shape (grid 6 2360 65528 4109353321 33759783 0 0 false) ≡ 1 ∷ 64 ∷ 37 ∷ 16 ∷ []
unfolding rate_log2 tile_width least tile_log2
many_rows = refl

-- an even width at 4:2:2 leaves fewer columns than were wanted
even_width : shape (grid 6 192 64 25 1 2 0 true) ≡ 2 ∷ 1 ∷ 2 ∷ 1 ∷ []
unfolding rate_log2 tile_width least tile_log2
even_width = refl

-- a frame rate that no rows of tiles can meet has no grid
too_fast : grid 6 8 8 10000000 1 0 0 false ≡ None
unfolding rate_log2 tile_width least tile_log2
too_fast = refl

-- A frame rate with denominator 0 has no grid.
no_rate : grid 6 8 8 25 0 0 0 false ≡ None
unfolding rate_log2 tile_width least tile_log2
no_rate = refl

-- The luma samples of the last tile's view, rounded up past the frame.
last_samples : tile_samples small 8 ≡ rect 128 128 64 64
last_samples = refl

-- The chroma samples of the last tile's view at 4:2:0.
last_chroma : tile_plane small 1 1 8 ≡ rect 64 64 32 32
last_chroma = refl

-- The blocks of the tile at the right end, cut to the table.
right_blocks : tile_blocks small 2 ≡ rect 32 0 8 16
right_blocks = refl

-- The blocks of the tile at the lower end, cut to the table.
lower_blocks : tile_blocks small 6 ≡ rect 0 32 16 4
lower_blocks = refl

-- The blocks of the last tile, cut to the table on both sides.
last_blocks : tile_blocks small 8 ≡ rect 32 32 8 4
last_blocks = refl
