use Rattle.std.proofs.Common.{◌≡◌, ℕ, ◌+◌, ◌*◌, ◌/◌, ◌^◌, ◌<◌, max, length, slice_index_or}
use Rattle.std.specs.Prelude.{if◌then◌else◌, nat_lt}
use Rattle.av1_rec.proofs.text.block_bands.raise.Given as goal

abbrev pub invariant-loop-y : goal.invariant-loop-y
invariant-loop-y l = record {
  len : length l.numbers ≡ length l.initial.numbers;
  value : (x y : ℕ) → x < l.cols → y < l.rows → slice_index_or l.numbers (y * l.cols + x) 0
      ≡ (if nat_lt y l.y then max (slice_index_or l.initial.numbers (y * l.cols + x) 0) (slice_index_or l.bands ((y + 1) / 2 ^ l.tall * l.width + (x + 1) / 2 ^ l.wide) 0) else slice_index_or l.initial.numbers (y * l.cols + x) 0);
}
