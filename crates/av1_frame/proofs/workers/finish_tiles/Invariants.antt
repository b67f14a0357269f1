use Rattle.std.proofs.Common.{◌≡◌, ◌++◌, length, take}
use Rattle.std.specs.List.{AllZip}
use Rattle.std.specs.Vec.Iter.{into_iter_items}
use Rattle.av1_tiling.specs.Frames.{views}
use Rattle.av1_frame.specs.Worked.{IsCodedFrom}
use Rattle.av1_frame.proofs.workers.finish_tiles.Given as goal

-- The tiles of the entries before this one are finished, and the other entries are left.
abbrev pub invariant-loop-entry : goal.invariant-loop-entry
invariant-loop-entry g l = record {
  can : (goal.iterator-loop-entry g).can_next l.entry-iterator;
  ends : (goal.iterator-loop-entry g).is_finite l.entry-iterator;
  rest : l.yielded ++ into_iter_items l.entry-iterator ≡ l.fn.entries.items;
  long : length l.tiles.items ≡ length l.yielded;
  made : AllZip (IsCodedFrom (g.C.TileCoder.meaning l.coder)) (take (length l.yielded) (views l.tiling l.fs l.blocks.entries)) l.tiles.items;
}
