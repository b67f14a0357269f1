use Rattle.std.proofs.Common.{◌≡◌}
use Rattle.av1_plane.specs.Runs.{placed}
use Rattle.av1_deblock.proofs.sample.put_four.Given as goal

-- The first j of the four samples are put into the list.
abbrev pub invariant-loop-j : goal.invariant-loop-j
invariant-loop-j l = l.to ≡ placed l.initial.to l.at l.four 0 l.j
