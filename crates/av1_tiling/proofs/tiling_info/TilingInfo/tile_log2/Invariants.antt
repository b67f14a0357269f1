use Rattle.std.proofs.Common.{ℕ, ◌<◌}
use Rattle.av1_tiling.specs.Least.{shifted}
use Rattle.av1_tiling.proofs.tiling_info.TilingInfo.tile_log2.Given as goal

-- No shift below k reaches the target.
abbrev pub invariant-loop-k : goal.invariant-loop-k
invariant-loop-k l = (j : ℕ) → j < l.k → shifted l.blk_size j < l.target
