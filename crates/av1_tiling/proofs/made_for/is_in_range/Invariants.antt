use Rattle.std.proofs.Common.{map}
use Rattle.av1_plane.specs.Numbers.{InDepth}
use Rattle.av1_tiling.proofs.Decided.{HaveRows}
use Rattle.av1_tiling.proofs.made_for.is_in_range.Given as goal

-- the rows so far are below the bound
abbrev pub invariant-loop-y : goal.invariant-loop-y
invariant-loop-y g l = HaveRows (InDepth l.bound) (map g.T.Pixel.number l.plane.samples.items) l.plane.cfg l.y
