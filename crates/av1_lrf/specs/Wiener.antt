-- The Wiener filter (AV1 specification, sections 7.17.4 and 7.17.5): seven taps across, then seven down.
use Rattle.std.specs.Prelude.{ℕ, ℤ, pos, neg_ℤ, ◌+◌, ◌-◌, ◌^◌, ◌+ℤ◌, ◌-ℤ◌, ◌*ℤ◌, List, [], ◌∷◌, ◌==◌, if◌then◌else◌}
pub use Rattle.av1_plane.specs.Numbers.{IsDepth}
use Rattle.av1_tiling.specs.Restoration.{across_coeffs, down_coeffs}
use Rattle.av1_lrf.specs.Sums.{sum_of_first, round2, limited}
use Rattle.av1_lrf.specs.Rows.{sample, Scene, stripe_source}

-- seven taps of three coefficients; together they weigh 128
abbrev pub taps : List ℤ → List ℤ
taps cs =
    let a = sample cs 0 in
    let b = sample cs 1 in
    let c = sample cs 2 in
    a ∷ b ∷ c ∷ (pos 128 -ℤ pos 2 *ℤ (a +ℤ b +ℤ c)) ∷ c ∷ b ∷ a ∷ []

-- by how many bits the sums across are rounded
abbrev pub across_bits : ℕ → ℕ
across_bits bd = if bd == 12 then 5 else 3

-- by how many bits the sums down are rounded
abbrev pub down_bits : ℕ → ℕ
down_bits bd = if bd == 12 then 9 else 11

-- how a sum is rounded, and its limits
pub record Rounding : Type 0 where
  pub bits : ℕ
  pub low : ℤ
  pub high : ℤ

-- a sum, rounded and limited
abbrev pub reduced : Rounding → ℤ → ℤ
reduced r v = limited r.low r.high (round2 v r.bits)

-- how a sum across is rounded and limited, so that 16 bits hold it
abbrev pub across_rounding : ℕ → Rounding
across_rounding bd =
    let bits = across_bits bd in
    let offset = 2 ^ (bd + 6 - bits) in
    let limit = 2 ^ (bd + 8 - bits) - 1 in
    record { bits = bits; low = neg_ℤ (pos offset); high = pos limit -ℤ pos offset }

-- how a sum down is rounded and limited, so that it is a sample
abbrev pub down_rounding : ℕ → Rounding
down_rounding bd = record { bits = down_bits bd; low = pos 0; high = pos (2 ^ bd - 1) }

-- the sum of seven numbers by their taps
abbrev pub tapped : List ℤ → (ℕ → ℤ) → ℤ
tapped ts f = sum_of_first 7 (λ i. sample ts i *ℤ f i)

-- column x of row y, which counts from 3 above the picture, filtered across
unfoldable pub wiener_across : Rounding → List ℤ → Scene → ℕ → ℕ → ℤ
wiener_across r ts s x y = reduced r (tapped ts (λ i. stripe_source s (x + i) y))

-- column x of row y of the picture, filtered across by the first taps and down by the second ones
unfoldable pub down : Rounding → List ℤ → Rounding → List ℤ → Scene → ℕ → ℕ → ℤ
down ra ta rd td s x y = reduced rd (tapped td (λ j. wiener_across ra ta s x (y + j)))

-- column x of row y of the picture, filtered by a unit's coefficients
abbrev pub wiener : ℕ → List (List ℤ) → Scene → ℕ → ℕ → ℤ
wiener bd coeffs s x y = down (across_rounding bd) (taps (across_coeffs coeffs)) (down_rounding bd) (taps (down_coeffs coeffs)) s x y
