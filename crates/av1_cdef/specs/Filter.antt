-- The filter of one sample (AV1 specification, section 7.15.3).
use Rattle.std.specs.Prelude.{ℕ, ℤ, pos, ◌<◌, ◌≤◌, ◌+◌, ◌-◌, ◌/◌, ◌%◌, ◌+ℤ◌, ◌-ℤ◌, ◌*ℤ◌, Option, Some, None, List, [], ◌∷◌, ◌==◌, if◌then◌else◌}
use Rattle.std.specs.Int.{int_min, int_max, int_shr, is_negative}
use Rattle.av1_cdef.specs.Strength.{constrained}
use Rattle.av1_cdef.specs.declared.settings.Settings.{Settings}

-- A sample beside the filtered one, if the plane has it, with what it counts.
pub record Tap : Type 0 where
  pub sample : Option ℤ
  pub weight : ℕ
  pub strength : ℕ

-- what a tap adds to the sum at a sample x
abbrev pub tap_pull : ℕ → ℤ → Tap → ℤ
tap_pull damping x t = elim t.sample [
  | Some v ↦ pos t.weight *ℤ constrained (v -ℤ x) t.strength damping
  | None ↦ pos 0
]

-- The sum, the least and the greatest over taps, on top of what came before.

-- the sum over taps, on top of `sum`
abbrev pub sum_of_taps : ℕ → ℤ → ℤ → List Tap → ℤ
sum_of_taps damping x sum [] = sum
sum_of_taps damping x sum (t ∷ ts) = sum_of_taps damping x (sum +ℤ tap_pull damping x t) ts

-- the lesser of a number and a tap's sample, if the plane has it
abbrev pub least_with : ℤ → Option ℤ → ℤ
least_with least (Some v) = int_min least v
least_with least None = least

-- the least over taps, on top of `least`
abbrev pub least_of_taps : ℤ → List Tap → ℤ
least_of_taps least [] = least
least_of_taps least (t ∷ ts) = least_of_taps (least_with least t.sample) ts

-- the greater of a number and a tap's sample, if the plane has it
abbrev pub greatest_with : ℤ → Option ℤ → ℤ
greatest_with greatest (Some v) = int_max greatest v
greatest_with greatest None = greatest

-- the greatest over taps, on top of `greatest`
abbrev pub greatest_of_taps : ℤ → List Tap → ℤ
greatest_of_taps greatest [] = greatest
greatest_of_taps greatest (t ∷ ts) = greatest_of_taps (greatest_with greatest t.sample) ts

-- a sixteenth of the sum, rounded to the nearest, halves away from 0
abbrev pub rounded_sum : ℤ → ℤ
rounded_sum sum = int_shr (pos 8 +ℤ sum -ℤ (if is_negative sum then pos 1 else pos 0)) 4

-- the filtered value of a sample x with these taps
abbrev pub filtered_sample : ℕ → ℤ → List Tap → ℤ
filtered_sample damping x taps =
    int_min (int_max (x +ℤ rounded_sum (sum_of_taps damping x (pos 0) taps)) (least_of_taps x taps)) (greatest_of_taps x taps)

-- Where the taps stand. Places count from two rows above and two columns left of the filtered sample,
-- so that none is negative: the sample itself stands at row 2, column 2. This is the table
-- Cdef_Directions with 2 added to each entry.

-- the row of the tap at distance k + 1 along direction d
abbrev pub tap_row : ℕ → ℕ → ℕ
tap_row d k =
    if d == 0 then (if k == 0 then 1 else 0)
    else if d == 1 then (if k == 0 then 2 else 1)
    else if d == 2 then 2
    else if d == 3 then (if k == 0 then 2 else 3)
    else if k == 0 then 3 else 4

-- the column of the tap at distance k + 1 along direction d
abbrev pub tap_column : ℕ → ℕ → ℕ
tap_column d k =
    if d == 5 then (if k == 0 then 2 else 3)
    else if d == 6 then 2
    else if d == 7 then (if k == 0 then 2 else 1)
    else if k == 0 then 3 else 4

-- strengths and dampings that CDEF can have
pub record InRange (s : Settings) : Type 0 where
  pub direction : s.direction < 8
  pub primary : s.primary ≤ 240
  pub secondary : s.secondary ≤ 240
  pub damping : s.damping ≤ 10
  pub scale : 0 < s.scale
  pub depth : s.scale ≤ 16

-- the weight of a primary tap at distance k + 1
abbrev pub primary_weight : ℕ → ℕ → ℕ → ℕ
primary_weight primary scale k = if primary / scale % 2 == 0 then (if k == 0 then 4 else 2) else 3

-- the weight of a secondary tap at distance k + 1
abbrev pub secondary_weight : ℕ → ℕ
secondary_weight k = if k == 0 then 2 else 1

-- the two taps at distance k + 1 along direction d, among the samples `near`, by row and column
abbrev pub pair : (ℕ → ℕ → Option ℤ) → ℕ → ℕ → ℕ → ℕ → List Tap → List Tap
pair near d k weight strength rest =
    record { sample = near (tap_row d k) (tap_column d k); weight = weight; strength = strength }
    ∷ record { sample = near (4 - tap_row d k) (4 - tap_column d k); weight = weight; strength = strength }
    ∷ rest

-- all taps at distance k + 1: the primary ones along the direction, the secondary ones 45 degrees off it
abbrev pub taps_at : (ℕ → ℕ → Option ℤ) → Settings → ℕ → List Tap → List Tap
taps_at near s k rest =
    pair near s.direction k (primary_weight s.primary s.scale k) s.primary
    (pair near ((s.direction + 2) % 8) k (secondary_weight k) s.secondary
    (pair near ((s.direction + 6) % 8) k (secondary_weight k) s.secondary rest))

-- all twelve taps of a sample
abbrev pub taps_of : (ℕ → ℕ → Option ℤ) → Settings → List Tap
taps_of near s = taps_at near s 0 (taps_at near s 1 [])

-- the filtered value of a sample x with these settings, among the samples near it
abbrev pub filtered_near : (ℕ → ℕ → Option ℤ) → Settings → ℤ → ℤ
filtered_near near s x = filtered_sample s.damping x (taps_of near s)
