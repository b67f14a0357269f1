use Rattle.std.proofs.Common.{◌≤◌, ◌<◌, ℕ, slice_index_or}
use Rattle.av1_rec.specs.Bands.{no_line}
use Rattle.av1_rec.proofs.text.block_bands.most_columns.Given as goal

abbrev pub invariant-loop-line : goal.invariant-loop-line
invariant-loop-line l = (i : ℕ) → i < l.line-index → (slice_index_or l.lines i no_line).cols ≤ l.most
