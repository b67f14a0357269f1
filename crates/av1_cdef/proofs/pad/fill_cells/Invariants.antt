use Rattle.av1_cdef.specs.Pad.{HasCellRun, none_cells}
use Rattle.av1_cdef.proofs.pad.fill_cells.Given as goal

-- The first k cells are marked as missing.
abbrev pub invariant-loop-k : goal.invariant-loop-k
invariant-loop-k l = HasCellRun l.at l.k none_cells l.initial.dst l.dst
