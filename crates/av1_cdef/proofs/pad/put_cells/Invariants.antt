use Rattle.std.proofs.Common.{map}
use Rattle.av1_cdef.specs.Pad.{HasCellRun, plain_cells}
use Rattle.av1_cdef.proofs.pad.put_cells.Given as goal

-- The first k cells are the plane's samples.
abbrev pub invariant-loop-k : goal.invariant-loop-k
invariant-loop-k g l = HasCellRun l.at l.k (plain_cells (map g.T.Pixel.number l.samples) l.from) l.initial.dst l.dst
