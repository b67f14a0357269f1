-- The tiles that an iterator has yet to give.
use Rattle.std.specs.Prelude.{List, reverse}
use Rattle.av1_tiling.specs.Views.{View}
use Rattle.av1_tiling.specs.declared.tile_context_iter.TileContextIterMut.{TileContextIterMut}

-- the views that an iterator over a frame's tiles has yet to give
abbrev pub tiles_left : {X : Type 0} → TileContextIterMut X → List View
tiles_left it = reverse it.left.items
