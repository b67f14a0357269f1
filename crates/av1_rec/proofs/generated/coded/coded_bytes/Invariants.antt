use Rattle.std.proofs.Common.{◌≡◌, ◌+◌, ◌%◌}
use Rattle.av1_rec.specs.BlockTable.{first_values}
use Rattle.av1_rec.proofs.generated.coded.coded_bytes.Given as goal

-- The first i bytes are made.
abbrev pub invariant-loop-i : goal.invariant-loop-i
invariant-loop-i l = l.made.items ≡ first_values (λ i. (l.n + i) % 256) l.i
