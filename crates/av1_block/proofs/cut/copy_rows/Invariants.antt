use Rattle.std.proofs.Common.{◌≡◌}
use Rattle.av1_block.specs.Cut.{cut_of}
use Rattle.av1_block.proofs.cut.copy_rows.Given as goal

-- The copied entries are the cut of the rectangle's first rows.
abbrev pub invariant-loop-row : goal.invariant-loop-row
invariant-loop-row g l = l.entries.items ≡ cut_of l.table l.table_cols l.rect.x l.rect.y l.rect.width l.row
