-- Tables with one entry for each unit of 4 by 4 luma samples, row by row, and views of a rectangle
-- of a table.
use Rattle.std.specs.Prelude.{ℕ, ◌+◌, ◌*◌, List}
use Rattle.std.specs.List.{slice_index_or}
use Rattle.av1_block.specs.declared.block.Block.{Block}
use Rattle.av1_block.specs.declared.tile_view.TileView.{TileView}
use Rattle.av1_block.specs.Block.{default_block}
use Rattle.av1_block.specs.Rows.{Rows}

-- the entries of a table, row by row
abbrev pub table_entries : {E : Type 0} → Rows E → List E
table_entries t = t.entries

-- the entries from a view's first one on
abbrev pub view_entries : {E : Type 0} → TileView E → List E
view_entries v = v.entries.now

-- how far apart the rows of a view begin in its entries
abbrev pub view_step : {E : Type 0} → TileView E → ℕ
view_step v = v.step

-- the column of the frame's table at which a view begins
abbrev pub view_x : {E : Type 0} → TileView E → ℕ
view_x v = v.x

-- the row of the frame's table at which a view begins
abbrev pub view_y : {E : Type 0} → TileView E → ℕ
view_y v = v.y

-- how many columns a view has
abbrev pub view_cols : {E : Type 0} → TileView E → ℕ
view_cols v = v.cols

-- how many rows a view has
abbrev pub view_rows : {E : Type 0} → TileView E → ℕ
view_rows v = v.rows

-- how many columns the frame's table has, of which a view shows a part
abbrev pub view_frame_cols : {E : Type 0} → TileView E → ℕ
view_frame_cols v = v.frame_cols

-- how many rows the frame's table has, of which a view shows a part
abbrev pub view_frame_rows : {E : Type 0} → TileView E → ℕ
view_frame_rows v = v.frame_rows

-- a view of blocks for reading
abbrev pub TileBlocks : Type 0
TileBlocks = TileView Block

-- the block at column x of row y, where rows lie `step` apart
abbrev pub entry_at : List Block → ℕ → ℕ → ℕ → Block
entry_at entries step x y = slice_index_or entries (y * step + x) default_block

-- the block at column x of row y of a view
abbrev pub view_at : TileBlocks → ℕ → ℕ → Block
view_at v x y = entry_at (view_entries v) (view_step v) x y
