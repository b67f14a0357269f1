use Rattle.std.proofs.Common.{◌≡◌, ◌+◌, ◌/◌, ◌%◌}
use Rattle.av1_rec.specs.BlockTable.{first_values}
use Rattle.av1_rec.specs.Generated.{generated_block}
use Rattle.av1_rec.proofs.generated.coded.coded_blocks.Given as goal

-- The first k blocks are made.
abbrev pub invariant-loop-k : goal.invariant-loop-k
invariant-loop-k l =
    l.made.items ≡ first_values (λ k. generated_block (l.rect.x + k % l.rect.width) (l.rect.y + k / l.rect.width)) l.k
