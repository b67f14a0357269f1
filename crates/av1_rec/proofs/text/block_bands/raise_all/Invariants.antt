use Rattle.std.proofs.Common.{◌≡◌, ℕ, ◌+◌, ◌*◌, ◌<◌, length, slice_index_or}
use Rattle.av1_rec.proofs.BandFacts.{last_taken}
use Rattle.av1_rec.proofs.text.block_bands.raise_all.Given as goal

abbrev pub invariant-loop-tall : goal.invariant-loop-tall
invariant-loop-tall l = record {
  len : length l.numbers ≡ length l.fn.numbers;
  value : (x y : ℕ) → x < l.cols → y < l.rows → slice_index_or l.numbers (y * l.cols + x) 0 ≡ last_taken l.tall 0 l.wides x y l.lines;
}

abbrev pub invariant-loop-wide : goal.invariant-loop-wide
invariant-loop-wide l = record {
  len : length l.numbers ≡ length l.fn.numbers;
  value : (x y : ℕ) → x < l.cols → y < l.rows → slice_index_or l.numbers (y * l.cols + x) 0 ≡ last_taken l.tall l.wide l.wides x y l.lines;
}
