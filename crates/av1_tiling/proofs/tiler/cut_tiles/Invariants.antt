use Rattle.std.proofs.Common.{◌≡◌}
use Rattle.av1_block.specs.Tables.{table_entries}
use Rattle.av1_tiling.specs.Frames.{views_below}
use Rattle.av1_tiling.proofs.tiler.cut_tiles.Given as goal

-- The views of the first n tiles are cut.
abbrev pub invariant-loop-n : goal.invariant-loop-n
invariant-loop-n g l = l.contexts.items ≡ views_below l.tiling l.fs (table_entries l.fb) l.n
