-- Views of all of a table of blocks.
use Rattle.std.specs.Prelude.{◌≡◌}
use Rattle.av1_block.specs.declared.block.Block.{Block}
use Rattle.av1_block.specs.Rows.{Rows}
use Rattle.av1_block.specs.Tables.{TileBlocks, view_entries, view_step, view_x, view_y, view_cols, view_rows, view_frame_cols, view_frame_rows}
use Rattle.av1_block.specs.Windows.{frame_window}
use Rattle.av1_block.specs.Writing.{TileBlocksMut, window, table_under, IsPlaced}

-- v shows all of the table, for reading
pub record ShowsTable (t : Rows Block) (v : TileBlocks) : Type 0 where
  pub entries : view_entries v ≡ t.entries
  pub step : view_step v ≡ t.cols
  pub x : view_x v ≡ 0
  pub y : view_y v ≡ 0
  pub cols : view_cols v ≡ t.cols
  pub rows : view_rows v ≡ t.rows
  pub frame_cols : view_frame_cols v ≡ t.cols
  pub frame_rows : view_frame_rows v ≡ t.rows

-- v shows all of the table, for reading and writing
pub record LendsTable (t : Rows Block) (v : TileBlocksMut) : Type 0 where
  pub table : table_under v ≡ t
  pub window : window v ≡ frame_window 0 0 t.cols t.rows t.cols t.rows
  pub placed : IsPlaced v
