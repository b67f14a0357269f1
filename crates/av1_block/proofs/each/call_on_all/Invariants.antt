use Rattle.std.proofs.Common.{◌≡◌, ℕ, ◌<◌, ◌≤◌, slice_index_or}
use Rattle.av1_block.specs.declared.block.Block.{Block}
use Rattle.av1_block.specs.Each.{Leaves}
use Rattle.av1_block.proofs.each.call_on_all.Given as goal

-- The first blocks were called on, and all other blocks are as they were.
abbrev pub invariant-loop-block : goal.invariant-loop-block
invariant-loop-block g l = record {
  changed : (k : ℕ) (d : Block) → k < l.block-index → Leaves g.F.Fn l.f (slice_index_or l.initial.blocks k d) (slice_index_or l.blocks k d);
  rest : (k : ℕ) (d : Block) → l.block-index ≤ k → slice_index_or l.blocks k d ≡ slice_index_or l.initial.blocks k d;
}
