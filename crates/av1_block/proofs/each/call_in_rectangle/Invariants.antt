use Rattle.std.proofs.Common.{◌≡◌}
use Rattle.av1_block.specs.Each.{Leaves, AreRelated}
use Rattle.av1_block.specs.Cut.{cut_of, with_cut}
use Rattle.av1_block.proofs.each.call_in_rectangle.Given as goal

-- The blocks of the first rows were called on, and all other blocks are as they were.
abbrev pub invariant-loop-row : goal.invariant-loop-row
invariant-loop-row g l = record {
  changed : AreRelated (Leaves g.F.Fn l.f) (cut_of l.initial.entries l.cols l.x l.y l.width l.row) (cut_of l.entries l.cols l.x l.y l.width l.row);
  elsewhere : l.entries ≡ with_cut l.initial.entries l.cols l.x l.y l.width l.row (cut_of l.entries l.cols l.x l.y l.width l.row);
}
