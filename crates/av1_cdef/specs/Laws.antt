-- Laws of the definitions.
use Rattle.std.specs.Prelude.{ℕ, ◌≡◌, ◌<◌, ◌≤◌, ◌+◌, ◌-◌, List, All, map, length}
use Rattle.av1_cdef.specs.declared.tally.Tally.{Tally}
use Rattle.av1_cdef.specs.Strength.{floor_log2}
use Rattle.av1_cdef.specs.Direction.{direction, direction_variance}
use Rattle.av1_cdef.specs.Picture.{sample_at}
use Rattle.av1_cdef.specs.Frame.{Deblocked, Channel, settings_of, block_cdef}
use Rattle.av1_cdef.specs.Tally.{counted}

-- a cell that the plane does not have leaves the sums, the least and the greatest as they are
abbrev pub SentinelAddsNothing : Type 0
SentinelAddsNothing = (t : Tally) (x weight strength damping : ℕ)
    → x < 4096 → t.least < 4096 → strength ≤ 240 → 2 ≤ damping → damping ≤ 10
    → counted t x 0x8000 weight strength (damping - floor_log2 strength) ≡ t

-- a block whose primary and secondary strengths are 0 is unchanged
abbrev pub NoStrengthNoChange : Type 0
NoStrengthNoChange = (d : Deblocked) (c : Channel) (index bx by x y : ℕ)
    → (settings_of d c index bx by).primary ≡ 0 → (settings_of d c index bx by).secondary ≡ 0
    → block_cdef d c index bx by x y ≡ sample_at c.picture x y

-- one constant on all samples of a block, shifted to 8 bits, changes neither the direction nor the variance
abbrev pub ConstantChangesNothing : Type 0
ConstantChangesNothing = (block : List ℕ) (c : ℕ) → length block ≡ 64 → All (λ p. p ≤ 255) block
    → (direction (map (λ p. p + c) block) ≡ direction block) × (direction_variance (map (λ p. p + c) block) ≡ direction_variance block)
