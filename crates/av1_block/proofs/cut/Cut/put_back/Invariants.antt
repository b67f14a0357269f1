use Rattle.std.proofs.Common.{◌≡◌}
use Rattle.av1_block.specs.Cut.{with_cut, cut_entries}
use Rattle.av1_block.proofs.cut.Cut.put_back.Given as goal

-- The first rows of the cut are put into the table.
abbrev pub invariant-loop-row : goal.invariant-loop-row
invariant-loop-row g l = l.table ≡ with_cut l.initial.table l.self.table_cols l.self.x l.self.y l.self.table.cols l.row (cut_entries l.self)
