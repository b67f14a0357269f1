use Rattle.std.proofs.Common.{◌≡◌, ◌*◌, pos, map}
use Rattle.av1_rec.specs.BlockTable.{first_values}
use Rattle.av1_rec.specs.Generated.{source_row, state_after}
use Rattle.av1_rec.proofs.generated.picture.source_plane.Given as goal

-- The first rows are made, and the state is the one after as many draws.
abbrev pub invariant-loop-row : goal.invariant-loop-row
invariant-loop-row l = record {
  made : map (λ r. map pos r.items) l.made.items ≡ first_values (λ row. source_row l.p row l.sides.width (state_after l.initial.state (row * l.sides.width))) l.row;
  state : l.state ≡ state_after l.initial.state (l.row * l.sides.width);
}
