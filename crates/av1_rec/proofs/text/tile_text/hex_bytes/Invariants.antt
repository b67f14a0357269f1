use Rattle.std.proofs.Common.{◌≡◌, ◌-◌}
use Rattle.av1_rec.specs.Lines.{text_line, many}
use Rattle.av1_rec.specs.Fields.{hex_byte}
use Rattle.av1_rec.proofs.Many.{with_front}
use Rattle.av1_rec.proofs.text.tile_text.hex_bytes.Given as goal

-- The bytes read and the rest of the text give what all bytes give.
abbrev pub invariant-loop : goal.invariant-loop
invariant-loop l = with_front l.bytes.items (many (text_line hex_byte) (l.count - l.counter) l.rest) ≡ many (text_line hex_byte) l.count l.text
