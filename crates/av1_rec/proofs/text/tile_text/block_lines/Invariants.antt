use Rattle.std.proofs.Common.{◌≡◌, ◌-◌}
use Rattle.av1_rec.specs.Lines.{text_line, many}
use Rattle.av1_rec.specs.Blocks.{block_line}
use Rattle.av1_rec.proofs.Many.{with_front}
use Rattle.av1_rec.proofs.text.tile_text.block_lines.Given as goal

-- The lines read and the rest of the text give what all lines give.
abbrev pub invariant-loop : goal.invariant-loop
invariant-loop l = with_front l.lines.items (many (text_line (block_line l.cols l.rows)) (l.count - l.counter) l.rest) ≡ many (text_line (block_line l.cols l.rows)) l.count l.text
