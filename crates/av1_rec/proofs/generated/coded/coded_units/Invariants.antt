use Rattle.std.proofs.Common.{◌≡◌, ◌+◌, ◌/◌, ◌%◌}
use Rattle.av1_rec.specs.BlockTable.{first_values}
use Rattle.av1_rec.specs.Generated.{generated_unit}
use Rattle.av1_rec.proofs.generated.coded.coded_units.Given as goal

-- The first k units are made.
abbrev pub invariant-loop-k : goal.invariant-loop-k
invariant-loop-k l =
    l.made.items ≡ first_values (λ k. generated_unit (l.rect.x + k % l.rect.width) (l.rect.y + k / l.rect.width)) l.k
