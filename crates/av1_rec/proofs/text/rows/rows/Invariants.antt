use Rattle.std.proofs.Common.{◌≡◌, ◌-◌, map}
use Rattle.av1_rec.specs.Lines.{text_line, row, many}
use Rattle.av1_rec.proofs.Many.{with_front}
use Rattle.av1_rec.proofs.text.rows.rows.Given as goal

-- The rows read and the rest of the text give what all rows give.
abbrev pub invariant-loop : goal.invariant-loop
invariant-loop g l = with_front (map (λ v. map g.T.Pixel.number v.items) l.rows.items) (many (text_line (row l.wide l.limit l.width)) (l.height - l.counter) l.rest) ≡ many (text_line (row l.wide l.limit l.width)) l.height l.text
