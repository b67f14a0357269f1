-- The direction of an 8x8 block of luma and its variance (AV1 specification, section 7.15.2). A block
-- is the list of its 64 samples at 8 bits, row by row.
use Rattle.std.specs.Prelude.{ℕ, ℤ, pos, ◌<◌, ◌+◌, ◌-◌, ◌*◌, ◌/◌, ◌%◌, ◌^◌, List, slice_index, ◌==◌, if◌then◌else◌}
use Rattle.av1_plane.specs.Numbers.{InDepth}
use Rattle.std.specs.List.{slice_index_or}
use Rattle.std.specs.Int.RustNames.{unsigned_abs}
use Rattle.av1_cdef.specs.Sums.{total_below, first_greatest, tabulated}

-- the block that starts at a place of a plane whose rows lie `step` apart, its samples shifted right
abbrev pub block_of_picture : List ℤ → ℕ → ℕ → ℕ → List ℕ
block_of_picture xs start step shift =
    tabulated 64 (λ k. unsigned_abs (slice_index_or xs (start + k / 8 * step + k % 8) (pos 0)) / 2 ^ shift)

-- the samples of the 8x8 block that starts at a place of a plane are below a bound
pub record IsDeepBlock (bound : ℕ) (xs : List ℤ) (start step : ℕ) : Type 0 where
  pub each : (i j : ℕ) → i < 8 → j < 8 → InDepth bound (slice_index_or xs (start + i * step + j) (pos 0))

-- the sample at row i, column j
abbrev pub sample_in_block : List ℕ → ℕ → ℕ → ℕ
sample_in_block block i j = slice_index block (8 * i + j)

-- The lines of a direction are numbered from 0. Direction 0 points 45 degrees up to the right,
-- direction 2 to the right, direction 4 45 degrees down to the right, direction 6 down.
abbrev pub line_of : ℕ → ℕ → ℕ → ℕ
line_of d i j =
    if d == 0 then i + j
    else if d == 1 then i + j / 2
    else if d == 2 then i
    else if d == 3 then 3 + i - j / 2
    else if d == 4 then 7 + i - j
    else if d == 5 then 3 - i / 2 + j
    else if d == 6 then j
    else i / 2 + j

-- the sum of f over the places of line n of direction d
abbrev pub along : ℕ → ℕ → (ℕ → ℕ → ℕ) → ℕ
along d n f = total_below 8 (λ i. total_below 8 (λ j. if line_of d i j == n then f i j else 0))

-- the sum of the samples of line n
abbrev pub line_sum : List ℕ → ℕ → ℕ → ℕ
line_sum block d n = along d n (sample_in_block block)

-- how many places line n has
abbrev pub line_places : ℕ → ℕ → ℕ
line_places d n = along d n (λ i j. 1)

-- 840 times the squared sum of a line over its length; 840 is a multiple of each length
abbrev pub line_cost : List ℕ → ℕ → ℕ → ℕ
line_cost block d n = 840 / line_places d n * (line_sum block d n * line_sum block d n)

-- the cost of a direction: the costs of its lines, of which there are at most 15, added
unfoldable pub cost : List ℕ → ℕ → ℕ
cost block d = total_below 15 (line_cost block d)

-- the first direction of the greatest cost
abbrev pub direction : List ℕ → ℕ
direction block = first_greatest 7 (cost block)

-- by how much the cost of the best direction is greater than that of the direction across
abbrev pub direction_variance : List ℕ → ℕ
direction_variance block = (cost block (direction block) - cost block ((direction block + 4) % 8)) / 2 ^ 10
