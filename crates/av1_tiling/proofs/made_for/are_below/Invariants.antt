use Rattle.std.proofs.Common.{take, All}
use Rattle.av1_plane.specs.Numbers.{InDepth}
use Rattle.av1_tiling.proofs.made_for.are_below.Given as goal

-- the samples so far are below the bound
abbrev pub invariant-loop-sample : goal.invariant-loop-sample
invariant-loop-sample g l = All (λ s. InDepth l.bound (g.T.Pixel.number s)) (take l.sample-index l.samples)
