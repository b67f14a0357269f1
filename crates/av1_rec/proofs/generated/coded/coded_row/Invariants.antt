use Rattle.std.proofs.Common.{◌≡◌, ◌+◌, ◌*◌, ◌/◌, pos, map}
use Rattle.av1_rec.specs.BlockTable.{first_values}
use Rattle.av1_rec.specs.Picture.{picture_sample}
use Rattle.av1_rec.proofs.generated.coded.coded_row.Given as goal

-- The samples of the first columns are made.
abbrev pub invariant-loop-column : goal.invariant-loop-column
invariant-loop-column l =
    map pos l.made.items ≡ first_values (λ column. picture_sample (map (λ r. map pos r.items) l.rows) ((l.rect.x + column) / 8 * 8) ((l.rect.y + l.row) / 8 * 8)) l.column
