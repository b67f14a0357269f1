-- What is known of each tile of a grid, so that its rectangles can be computed.
use Rattle.std.specs.Prelude.{◌≡◌, ◌<◌, ◌≤◌, ℕ, ◌*◌, ◌%◌}
use Rattle.av1_tiling.specs.declared.tiling_info.TilingInfo.{TilingInfo}
use Rattle.av1_tiling.specs.TileRects.{tile_superblock}
use Rattle.av1_rec.specs.declared.text.extent.TileShape.{TileShape}

-- tile n begins inside the frame, whose sides are whole blocks of 8 samples and at most 65536
pub record IsTileNumber (t : TilingInfo) (n : ℕ) : Type 0 where
  pub columns : 0 < t.cols
  pub side : t.sb_size_log2 ≡ 6
  pub x : (tile_superblock t n).0 * 64 < t.frame_width
  pub y : (tile_superblock t n).1 * 64 < t.frame_height
  pub wide : t.frame_width ≤ 65536
  pub high : t.frame_height ≤ 65536
  pub whole_columns : t.frame_width % 8 ≡ 0
  pub whole_rows : t.frame_height % 8 ≡ 0
  pub tile_wide : 0 < t.tile_width_sb
  pub tile_high : 0 < t.tile_height_sb

-- each tile of the grid begins inside the frame, and there are at most 4096
pub record AreTiles (t : TilingInfo) : Type 0 where
  pub few : t.cols * t.rows ≤ 4096
  pub each : (n : ℕ) → n < t.cols * t.rows → IsTileNumber t n

-- a tile has blocks, at most 16384 each way
pub record IsTileShape (s : TileShape) : Type 0 where
  pub columns : (1 ≤ s.blocks.width) × (s.blocks.width ≤ 16384)
  pub rows : (1 ≤ s.blocks.height) × (s.blocks.height ≤ 16384)
