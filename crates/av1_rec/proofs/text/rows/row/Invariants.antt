use Rattle.std.proofs.Common.{◌≡◌, ◌-◌, map}
use Rattle.av1_rec.specs.Lines.{row}
use Rattle.av1_rec.proofs.Samples.{behind}
use Rattle.av1_rec.proofs.text.rows.row.Given as goal

-- The samples read and the rest of the text give what the whole row gives.
abbrev pub invariant-loop : goal.invariant-loop
invariant-loop g l = behind (map g.T.Pixel.number l.samples.items) (row l.wide l.limit (l.width - l.counter) l.rest) ≡ row l.wide l.limit l.width l.text
