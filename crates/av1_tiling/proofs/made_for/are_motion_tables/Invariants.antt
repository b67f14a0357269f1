use Rattle.std.proofs.Common.{take, All}
use Rattle.av1_tiling.proofs.MadeFor.{HasSides}
use Rattle.av1_tiling.proofs.made_for.are_motion_tables.Given as goal

-- the tables so far have the sides
abbrev pub invariant-loop-table : goal.invariant-loop-table
invariant-loop-table l = All (HasSides l.cols l.rows) (take l.table-index l.tables)
