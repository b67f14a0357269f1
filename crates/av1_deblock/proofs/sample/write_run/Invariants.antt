use Rattle.std.proofs.Common.{◌≡◌, map}
use Rattle.av1_plane.specs.Runs.{placed}
use Rattle.av1_deblock.proofs.sample.write_run.Given as goal

-- The samples of the first j numbers are written.
abbrev pub invariant-loop-j : goal.invariant-loop-j
invariant-loop-j g l = map g.T.Pixel.number l.to ≡ placed (map g.T.Pixel.number l.initial.to) l.at l.from l.first l.j
