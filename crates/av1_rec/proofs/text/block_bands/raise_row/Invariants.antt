use Rattle.std.proofs.Common.{◌≡◌, ℕ, ◌+◌, ◌-◌, ◌/◌, ◌^◌, max, length, slice_index_or}
use Rattle.std.specs.Prelude.{if◌then◌else◌, nat_le, nat_lt, ◌&&◌}
use Rattle.av1_rec.proofs.text.block_bands.raise_row.Given as goal

abbrev pub invariant-loop-x : goal.invariant-loop-x
invariant-loop-x l = record {
  len : length l.numbers ≡ length l.initial.numbers;
  value : (i : ℕ) → slice_index_or l.numbers i 0
      ≡ (if nat_le l.start i && nat_lt i (l.start + l.x) then max (slice_index_or l.initial.numbers i 0) (slice_index_or l.bands (l.from + (i - l.start + 1) / 2 ^ l.wide) 0) else slice_index_or l.initial.numbers i 0);
}
