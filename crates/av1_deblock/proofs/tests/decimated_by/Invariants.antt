use Rattle.std.proofs.Common.{◌≡◌, ◌*◌, length, vec_len}
use Rattle.av1_deblock.proofs.tests.decimated_by.Given as goal

-- The samples of the rows above are all there.
abbrev pub invariant-loop-below : goal.invariant-loop-below
invariant-loop-below l = vec_len l.samples ≡ length l.across * l.below-index
