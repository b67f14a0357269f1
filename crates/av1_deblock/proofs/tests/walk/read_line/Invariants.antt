use Rattle.std.proofs.Common.{◌<◌, ℕ, ℤ, get_or}
use Rattle.av1_plane.specs.Numbers.{InDepth}
use Rattle.av1_deblock.proofs.tests.walk.read_line.Given as goal

-- The first j samples are read, and they are bytes.
abbrev pub invariant-loop-j : goal.invariant-loop-j
invariant-loop-j l = (k : ℕ) (d : ℤ) → k < l.j → InDepth 256 (get_or l.line k d)
