use Rattle.std.proofs.Common.{◌≡◌, pos, map}
use Rattle.av1_plane.specs.Runs.{placed}
use Rattle.av1_cdef.proofs.run.put_run.Given as goal

-- The first j numbers are put into the row.
abbrev pub invariant-loop-j : goal.invariant-loop-j
invariant-loop-j g l = map g.T.Pixel.number l.row ≡ placed (map g.T.Pixel.number l.initial.row) l.x (map pos l.from) 0 l.j
