use Rattle.std.proofs.Common.{ℕ, ◌<◌, ◌≤◌, get_or}
use Rattle.av1_block.specs.declared.block.Block.{Block}
use Rattle.av1_cdef.proofs.tests.fill_blocks.Given as goal

abbrev pub invariant-loop-i : goal.invariant-loop-i
invariant-loop-i l = (k : ℕ) (d : Block) → k < l.i → (get_or l.entries k d).cdef_index ≤ 7
