use Rattle.std.proofs.Common.{◌≡◌, pos, map}
use Rattle.av1_rec.specs.BlockTable.{first_values}
use Rattle.av1_rec.specs.Generated.{coded_row}
use Rattle.av1_rec.proofs.generated.coded.coded_rows.Given as goal

-- The first rows are made.
abbrev pub invariant-loop-row : goal.invariant-loop-row
invariant-loop-row l =
    map (λ r. map pos r.items) l.made.items ≡ first_values (λ row. coded_row (map (λ r. map pos r.items) l.rows) l.rect row) l.row
