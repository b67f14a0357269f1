use Rattle.std.proofs.Common.{◌≡◌, ℕ, ◌+◌, ◌*◌, ◌<◌, length, slice_index_or}
use Rattle.av1_rec.specs.Bands.{ends_with, last_line}
use Rattle.av1_rec.proofs.text.block_bands.mark_lines.Given as goal

abbrev pub invariant-loop-line : goal.invariant-loop-line
invariant-loop-line l = record {
  counted : l.number ≡ l.line-index;
  len : length l.numbers ≡ length l.initial.numbers;
  value : (p q : ℕ) → p < l.width → q * l.width + p < length l.initial.numbers
      → slice_index_or l.numbers (q * l.width + p) 0 ≡ last_line (λ line. ends_with l.tall l.wide line p q) l.lines l.line-index;
}
