use Rattle.std.proofs.Common.{map}
use Rattle.av1_cdef.specs.Pad.{HasPaddedCells, window_cells}
use Rattle.av1_cdef.proofs.pad.pad_block.Given as goal

-- The first rows of the window are filled in.
abbrev pub invariant-loop-y : goal.invariant-loop-y
invariant-loop-y g l = HasPaddedCells l.stride l.w l.y (window_cells (map g.T.Pixel.number l.samples) l.place l.step l.w l.h l.sides) l.initial.dst l.dst
