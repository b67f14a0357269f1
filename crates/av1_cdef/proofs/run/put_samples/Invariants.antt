use Rattle.std.proofs.Common.{◌≡◌, map}
use Rattle.av1_plane.specs.Runs.{placed}
use Rattle.av1_cdef.proofs.run.put_samples.Given as goal

-- The first j samples are put into the row.
abbrev pub invariant-loop-j : goal.invariant-loop-j
invariant-loop-j g l = map g.T.Pixel.number l.row ≡ placed (map g.T.Pixel.number l.initial.row) l.x (map g.T.Pixel.number l.from) l.first l.j
