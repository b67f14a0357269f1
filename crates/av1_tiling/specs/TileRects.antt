-- The rectangles of a tile: in the frame's planes, in its tables of blocks and motion, and in its tables
-- of restoration units. Tiles are counted row by row (AV1 specification, section 5.11.1).
use Rattle.std.specs.Prelude.{ℕ, ◌-◌, ◌*◌, ◌/◌, ◌%◌, ◌^◌, min}
use Rattle.std.specs.Int.{div_ceil}
use Rattle.av1_plane.specs.declared.tile_rect.TileRect.{TileRect}
use Rattle.av1_plane.specs.Area.{decimated_tile}
use Rattle.av1_tiling.specs.Grid.{round_up}
use Rattle.av1_tiling.specs.declared.tiling_info.TilingInfo.{TilingInfo}

-- the column of the grid in which tile n stands
abbrev pub tile_column : TilingInfo → ℕ → ℕ
tile_column t n = n % t.cols

-- the row of the grid in which tile n stands
abbrev pub tile_row : TilingInfo → ℕ → ℕ
tile_row t n = n / t.cols

-- the side of a superblock in luma samples
abbrev pub superblock_side : TilingInfo → ℕ
superblock_side t = 2 ^ t.sb_size_log2

-- how many columns of superblocks a frame has
abbrev pub superblock_columns : TilingInfo → ℕ
superblock_columns t = div_ceil t.frame_width (superblock_side t)

-- how many rows of superblocks a frame has
abbrev pub superblock_rows : TilingInfo → ℕ
superblock_rows t = div_ceil t.frame_height (superblock_side t)

-- the tile's first superblock: its column and its row
abbrev pub tile_superblock : TilingInfo → ℕ → ℕ × ℕ
tile_superblock t n = (tile_column t n * t.tile_width_sb, tile_row t n * t.tile_height_sb)

-- how many columns and rows of superblocks the tile has
abbrev pub tile_superblocks : TilingInfo → ℕ → ℕ × ℕ
tile_superblocks t n = (
  min t.tile_width_sb (superblock_columns t - (tile_superblock t n).0),
  min t.tile_height_sb (superblock_rows t - (tile_superblock t n).1),
)

-- the tile's luma samples, cut to the frame
abbrev pub tile_luma : TilingInfo → ℕ → TileRect
tile_luma t n =
    let x = (tile_superblock t n).0 * superblock_side t in
    let y = (tile_superblock t n).1 * superblock_side t in
    record {
      x = x;
      y = y;
      width = min (t.tile_width_sb * superblock_side t) (t.frame_width - x);
      height = min (t.tile_height_sb * superblock_side t) (t.frame_height - y);
    }

-- the luma samples that a tile's view has: the tile's own, rounded up to whole superblocks
abbrev pub samples_rect : ℕ × ℕ → (sb_size_log2 width height : ℕ) → TileRect
samples_rect superblock sb_size_log2 width height =
    let side = 2 ^ sb_size_log2 in
    record { x = superblock.0 * side; y = superblock.1 * side; width = round_up width side; height = round_up height side }

-- the luma samples of the tile's view
abbrev pub tile_samples : TilingInfo → ℕ → TileRect
tile_samples t n = samples_rect (tile_superblock t n) t.sb_size_log2 (tile_luma t n).width (tile_luma t n).height

-- the samples of the tile's view in a plane of this decimation
abbrev pub tile_plane : TilingInfo → ℕ → ℕ → ℕ → TileRect
tile_plane t xdec ydec n = decimated_tile (tile_samples t n) xdec ydec

-- how many columns the tables of blocks and of motion records have, of 4 luma samples each
abbrev pub block_columns : TilingInfo → ℕ
block_columns t = t.frame_width / 4

-- how many rows the tables of blocks and of motion records have, of 4 luma samples each
abbrev pub block_rows : TilingInfo → ℕ
block_rows t = t.frame_height / 4

-- the blocks of a tile's superblocks, cut to the table
abbrev pub tile_blocks : TilingInfo → ℕ → TileRect
tile_blocks t n =
    let side = superblock_side t / 4 in
    let x = (tile_superblock t n).0 * side in
    let y = (tile_superblock t n).1 * side in
    record {
      x = x;
      y = y;
      width = min (t.tile_width_sb * side) (block_columns t - x);
      height = min (t.tile_height_sb * side) (block_rows t - y);
    }

-- the motion records of a tile with this first superblock and these luma sides
abbrev pub motion_rect : ℕ × ℕ → (sb_size_log2 width height : ℕ) → TileRect
motion_rect superblock sb_size_log2 width height =
    let side = 2 ^ sb_size_log2 / 4 in
    record { x = superblock.0 * side; y = superblock.1 * side; width = width / 4; height = height / 4 }

-- the tile's motion records
abbrev pub tile_motion : TilingInfo → ℕ → TileRect
tile_motion t n = motion_rect (tile_superblock t n) t.sb_size_log2 (tile_luma t n).width (tile_luma t n).height

-- the units of a tile with this first superblock and these numbers of superblocks, in a table of units
-- of these sides; a unit has 2 ^ shift superblocks a side
abbrev pub units_rect : (superblock superblocks shifts sides : ℕ × ℕ) → TileRect
units_rect superblock superblocks shifts sides =
    let x = min (superblock.0 / 2 ^ shifts.0) sides.0 in
    let y = min (superblock.1 / 2 ^ shifts.1) sides.1 in
    record {
      x = x;
      y = y;
      width = min (div_ceil superblocks.0 (2 ^ shifts.0)) (sides.0 - x);
      height = min (div_ceil superblocks.1 (2 ^ shifts.1)) (sides.1 - y);
    }

-- the tile's units of a plane with columns by rows of them
abbrev pub tile_units : TilingInfo → (h_shift v_shift columns rows : ℕ) → ℕ → TileRect
tile_units t h_shift v_shift columns rows n =
    units_rect (tile_superblock t n) (tile_superblocks t n) (h_shift, v_shift) (columns, rows)
