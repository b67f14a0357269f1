use Rattle.std.proofs.Common.{ℕ, ◌<◌, get_or}
use Rattle.av1_block.specs.declared.block.Block.{Block}
use Rattle.av1_deblock.specs.Levels.{HasReference}
use Rattle.av1_deblock.proofs.tests.fill_blocks.Given as goal

-- The first i blocks are predicted from a frame.
abbrev pub invariant-loop-i : goal.invariant-loop-i
invariant-loop-i l = (k : ℕ) (d : Block) → k < l.i → HasReference (get_or l.entries k d)
