-- Strengths, dampings and what they allow a tap (AV1 specification, sections 7.15.1 and 7.15.3).
use Rattle.std.specs.Prelude.{ℕ, zero, suc, ℤ, pos, neg_ℤ, ◌+◌, ◌-◌, ◌*◌, ◌/◌, ◌%◌, ◌^◌, min, nat_le, ◌==◌, if◌then◌else◌}
use Rattle.std.specs.Int.{is_negative}
use Rattle.std.specs.Int.RustNames.{unsigned_abs}

-- the greatest k up to `most` with 2 ^ k ≤ n; 0 where there is none
unfoldable pub floor_log2_up_to : ℕ → ℕ → ℕ
floor_log2_up_to zero n = 0
floor_log2_up_to (suc most) n = if nat_le (2 ^ suc most) n then suc most else floor_log2_up_to most n

-- the greatest k with 2 ^ k ≤ n, for strengths, which are below 256; 0 for 0
abbrev pub floor_log2 : ℕ → ℕ
floor_log2 n = floor_log2_up_to 7 n

-- n with the sign of d
abbrev pub with_sign : ℤ → ℕ → ℤ
with_sign d n = if is_negative d then neg_ℤ (pos n) else pos n

-- how far a difference pulls: with growing size first more, then less, down to 0
abbrev pub pull : ℕ → ℕ → ℕ → ℕ
pull size threshold shift = min size (threshold - size / 2 ^ shift)

-- a difference limited by a threshold and a damping; 0 where the threshold is 0
abbrev pub constrained : ℤ → ℕ → ℕ → ℤ
constrained diff threshold damping =
    with_sign diff (pull (unsigned_abs diff) threshold (damping - floor_log2 threshold))

-- the primary strength of a luma block, adjusted to the block's variance
abbrev pub adjusted_strength : ℕ → ℕ → ℕ
adjusted_strength strength variance =
    if variance == 0 then 0 else (strength * (4 + floor_log2_up_to 12 (variance / 64)) + 8) / 16

-- The strengths that a strength byte holds, at 8 bits.

-- the primary strength in a strength byte
abbrev pub primary_of : ℕ → ℕ
primary_of byte = byte / 4

-- the secondary strength in a strength byte, where 3 stands for 4
abbrev pub secondary_of : ℕ → ℕ
secondary_of byte = if byte % 4 == 3 then 4 else byte % 4
