use Rattle.std.proofs.Common.{◌≡◌, ◌+◌, pos, map}
use Rattle.av1_rec.specs.BlockTable.{first_values}
use Rattle.av1_rec.specs.Generated.{source_sample, state_after}
use Rattle.av1_rec.proofs.generated.picture.source_row.Given as goal

-- The samples of the first columns are made, and the state is the one after as many draws.
abbrev pub invariant-loop-column : goal.invariant-loop-column
invariant-loop-column l = record {
  made : map pos l.made.items ≡ first_values (λ column. pos (source_sample l.p l.row column (state_after l.initial.state (column + 1)))) l.column;
  state : l.state ≡ state_after l.initial.state l.column;
}
