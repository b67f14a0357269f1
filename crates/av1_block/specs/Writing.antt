-- Views for writing: a rectangle of the table that is borrowed.
use Rattle.std.specs.Prelude.{ℕ, ◌+◌, ◌*◌, ◌≡◌, ◌≤◌, ◌&&◌, nat_lt, if◌then◌else◌, List, length}
use Rattle.std.specs.Borrow.{GName}
use Rattle.av1_plane.specs.declared.offset.BlockOffset.{BlockOffset}
use Rattle.av1_block.specs.declared.block.Block.{Block}
use Rattle.av1_block.specs.declared.block_size.BlockSize.{BlockSize}
use Rattle.av1_block.specs.declared.window.Window.{Window}
use Rattle.av1_block.specs.declared.tile_view_mut.TileViewMut.{TileViewMut}
use Rattle.av1_block.specs.Rows.{Rows, with_entry_run, with_entry}
use Rattle.av1_block.specs.Tables.{entry_at}
use Rattle.av1_block.specs.Cut.{cut_of, with_cut, with_each}
use Rattle.av1_block.specs.Sides.{block_width, block_height}
use Rattle.av1_block.specs.Windows.{window_part}

-- a view of blocks for writing
abbrev pub TileBlocksMut : Type 0
TileBlocksMut = TileViewMut Block

-- the rectangle of a view for writing
abbrev pub window : {E : Type 0} → TileViewMut E → Window
window v = v.window

-- the table that a view for writing borrows
abbrev pub table_under : {E : Type 0} → TileViewMut E → Rows E
table_under v = v.table.now

-- the entries of the table that a view for writing borrows, row by row
abbrev pub entries_under : {E : Type 0} → TileViewMut E → List E
entries_under v = (table_under v).entries

-- the name of the reference by which a view for writing borrows its table
abbrev pub lent_name : {E : Type 0} → TileViewMut E → GName
lent_name v = v.table.ghost_name

-- where column x of row y of a view stands in the entries of the table that it borrows
abbrev pub place_under : {E : Type 0} → TileViewMut E → ℕ → ℕ → ℕ
place_under v x y = ((window v).top + y) * (table_under v).cols + ((window v).left + x)

-- the same where the view has column x of row y; past the table's end otherwise
abbrev pub index_under : {E : Type 0} → TileViewMut E → ℕ → ℕ → ℕ
index_under v x y =
    if nat_lt x (window v).cols && nat_lt y (window v).rows then place_under v x y
    else length (entries_under v)

-- the block at column x of row y of the view
abbrev pub block_under : TileBlocksMut → ℕ → ℕ → Block
block_under v x y =
    entry_at (entries_under v) (table_under v).cols ((window v).left + x) ((window v).top + y)

-- a view's rectangle lies in the table that it borrows, and its place lies in the frame's table
pub record IsPlaced {E : Type 0} (v : TileViewMut E) : Type 0 where
  pub across : (window v).left + (window v).cols ≤ (table_under v).cols
  pub down : (window v).top + (window v).rows ≤ (table_under v).rows
  pub frame_across : (window v).x + (window v).cols ≤ (window v).frame_cols
  pub frame_down : (window v).y + (window v).rows ≤ (window v).frame_rows

-- b shows a's rectangle of the table that a borrows, whose entries may have changed
pub record IsSameView {E : Type 0} (a b : TileViewMut E) : Type 0 where
  pub name : lent_name b ≡ lent_name a
  pub window : window b ≡ window a
  pub cols : (table_under b).cols ≡ (table_under a).cols
  pub rows : (table_under b).rows ≡ (table_under a).rows

-- the blocks of the size `bsize` at a block offset, where the view has them
abbrev pub blocks_at : TileBlocksMut → BlockOffset → BlockSize → List Block
blocks_at v bo bsize =
    let part = window_part (window v) bo.x bo.y (block_width bsize) (block_height bsize) in
    cut_of (entries_under v) (table_under v).cols part.left part.top part.cols part.rows

-- the blocks of the table, with others at the places of `blocks_at`
abbrev pub with_blocks_at : TileBlocksMut → BlockOffset → BlockSize → List Block → List Block
with_blocks_at v bo bsize blocks =
    let part = window_part (window v) bo.x bo.y (block_width bsize) (block_height bsize) in
    with_cut (entries_under v) (table_under v).cols part.left part.top part.cols part.rows blocks

-- the blocks of the table, with f done to each of `blocks_at`
abbrev pub with_each_at : TileBlocksMut → BlockOffset → BlockSize → (Block → Block) → List Block
with_each_at v bo bsize f =
    let part = window_part (window v) bo.x bo.y (block_width bsize) (block_height bsize) in
    with_each f (entries_under v) (table_under v).cols part.left part.top part.cols part.rows

-- b is the view a of a table in which f was done to each block of the size `bsize` at a block
-- offset, where the view has it, and all else is as it was
pub record IsSetAt (a b : TileBlocksMut) (bo : BlockOffset) (bsize : BlockSize) (f : Block → Block) : Type 0 where
  pub same : IsSameView a b
  pub placed : IsPlaced b
  pub blocks : entries_under b ≡ with_each_at a bo bsize f

-- the view with these entries from index i of the table on
abbrev pub with_run_at : {E : Type 0} → TileViewMut E → ℕ → List E → TileViewMut E
with_run_at v i run = record v { table = record v.table { now = with_entry_run v.table.now i run } }

-- the view with this entry at index i of the table
abbrev pub with_entry_at : {E : Type 0} → TileViewMut E → ℕ → E → TileViewMut E
with_entry_at v i entry = record v { table = record v.table { now = with_entry v.table.now i entry } }

-- the view of another table
abbrev pub with_table : {E : Type 0} → TileViewMut E → Rows E → TileViewMut E
with_table v table = record v { table = record v.table { now = table } }
