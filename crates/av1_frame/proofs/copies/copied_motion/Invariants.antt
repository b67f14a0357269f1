use Rattle.std.proofs.Common.{◌≡◌, take}
use Rattle.av1_frame.proofs.copies.copied_motion.Given as goal

-- The tables before this one are copied.
abbrev pub invariant-loop-table : goal.invariant-loop-table
invariant-loop-table l = l.copies.items ≡ take l.table-index l.tables
