-- The self-guided filter as the code computes it: squares by their prefix sums, and weights and means in
-- cells, all in 32 bits.
use Rattle.std.specs.Prelude.{ℕ, ℤ, pos, Bool, ◌+ℤ◌, ◌*ℤ◌, ◌-ℤ◌, ◌≤ℤ◌, ◌+◌, ◌-◌, ◌*◌, ◌/◌, ◌%◌, ◌^◌, ◌<◌, ◌≤◌, ◌≡◌, List, min, nat_le, ◌==◌, if◌then◌else◌, length}
use Rattle.av1_lrf.specs.declared.guide.Guide.{Guide}
use Rattle.av1_lrf.specs.declared.mix.Mix.{Mix}
use Rattle.av1_lrf.specs.declared.guided.Plan.{Plan}
use Rattle.av1_lrf.specs.Rows.{sample}
use Rattle.av1_lrf.specs.Guided.{Table, squared, box_side, count, one_by, strength}
use Rattle.av1_lrf.specs.Sums.{rounded_shift}
use Rattle.av1_lrf.specs.Wiener.{reduced, IsDepth}
use Rattle.av1_lrf.specs.Taps.{rounding_of, IsWithinBound, AreLimits}
use Rattle.av1_lrf.specs.Integral.{cell, HasCornerSums}

-- the wrapping difference of the four cells at the corners of a square of side n
unfoldable pub cell_box : List ℕ → ℕ → ℕ → ℕ → ℕ
cell_box cells at step n =
    (((cell cells (at + n * step + n) + (2 ^ 32 - cell cells (at + n * step))) % 2 ^ 32 + (2 ^ 32 - cell cells (at + n))) % 2 ^ 32 + cell cells at) % 2 ^ 32

-- v / 2 ^ n, rounded, in 32 bits
abbrev pub rounded_32 : ℕ → ℕ → ℕ
rounded_32 v n = (v + 2 ^ n / 2) % 2 ^ 32 / 2 ^ n

-- the weight of the sample itself, by the rounded product of variation and strength
abbrev pub weight_at : ℕ → ℕ
weight_at z = if nat_le 255 z then 256 else if z == 0 then 1 else (z * 256 + z / 2) / (z + 1)

-- the rounded product of variation and strength, at most 255, by a square's sum and its sum of squares
unfoldable pub index_by : Guide → ℕ → ℕ → ℕ
index_by g sum squares =
    min (rounded_32 (((rounded_32 squares (2 * g.shift) * g.count) % 2 ^ 32 - (rounded_32 sum g.shift * rounded_32 sum g.shift) % 2 ^ 32) * g.strength % 2 ^ 32) 20) 255

-- the weighted mean, by a weight and the sum over a square
unfoldable pub mean_by : ℕ → ℕ → ℕ → ℕ
mean_by one_by w sum = rounded_32 (((256 - w) * sum) % 2 ^ 32 * one_by % 2 ^ 32) 12

-- the weight for the square whose first corner is a cell
abbrev pub cell_weight : Guide → List ℕ → List ℕ → ℕ → ℕ → ℕ
cell_weight g cells squares step at = weight_at (index_by g (cell_box cells at step g.side) (cell_box squares at step g.side))

-- the mean for the square whose first corner is a cell
abbrev pub cell_mean : Guide → List ℕ → List ℕ → ℕ → ℕ → ℕ
cell_mean g cells squares step at = mean_by g.one_by (cell_weight g cells squares step at) (cell_box cells at step g.side)

-- the numbers of a pass are small enough for 32 bits
pub record IsGuide (g : Guide) : Type 0 where
  pub shift : g.shift ≤ 4
  pub side : g.side ≤ 5

-- each cell is at most m
pub record AtMost (m : ℕ) (cells : List ℕ) : Type 0 where
  pub each : (i : ℕ) → cell cells i ≤ m

-- the first n columns of the first m rows of 66 cells have these values
pub record HasGuides (n m : ℕ) (value : ℕ → ℕ → ℕ) (cells : List ℕ) : Type 0 where
  pub each : (i k : ℕ) → i < n → k < m → cell cells (k * 66 + i) ≡ value i k

-- a table of weights
pub record AreWeights (weights : List ℕ) : Type 0 where
  pub long : 256 ≤ length weights
  pub each : (z : ℕ) → z < 256 → cell weights z ≡ weight_at z

-- 6 times the middle and 5 times both sides, of three cells in a row
unfoldable pub guide_line_at : List ℕ → ℕ → ℕ
guide_line_at cells at = 5 * cell cells at + 6 * cell cells (at + 1) + 5 * cell cells (at + 2)

-- the sum of radius 2 from the cell above and left; an even row lies between two rows of cells
unfoldable pub guide_wide_at : Bool → List ℕ → ℕ → ℕ
guide_wide_at odd cells at = if odd then guide_line_at cells (at + 66) else guide_line_at cells at + guide_line_at cells (at + 66)

-- the sum of radius 1, from the cell above and left
unfoldable pub cross_at : List ℕ → ℕ → ℕ
cross_at cells at =
    3 * cell cells at + 4 * cell cells (at + 1) + 3 * cell cells (at + 2)
    + (4 * cell cells (at + 66) + 4 * cell cells (at + 67) + 4 * cell cells (at + 68))
    + (3 * cell cells (at + 132) + 4 * cell cells (at + 133) + 3 * cell cells (at + 134))

-- a sample after a pass
unfoldable pub pass_result : ℕ → ℕ → ℕ → ℕ → ℕ → ℕ
pass_result s a b v bits = if s == 0 then v * 16 else rounded_shift (a * v + b) bits

-- both passes and the sample, added by their weights
unfoldable pub mixed : Mix → ℕ → ℕ → ℕ → ℤ
mixed m f2 v f1 = reduced (rounding_of m.limits) (m.w0 *ℤ pos f2 +ℤ m.w1 *ℤ pos (v * 16) +ℤ m.w2 *ℤ pos f1)

-- the weights and limits of a mix are small enough for 32 bits
pub record IsMix (m : Mix) : Type 0 where
  pub w0 : IsWithinBound 384 m.w0
  pub w1 : IsWithinBound 384 m.w1
  pub w2 : IsWithinBound 384 m.w2
  pub limits : AreLimits m.limits
  pub low : m.limits.low ≡ pos 0
  pub order : m.limits.low ≤ℤ m.limits.high

-- the guided sample, by the cells from these places on
unfoldable pub guided_sample : Mix → Bool → List ℕ → List ℕ → List ℕ → List ℕ → ℕ → ℕ → ℕ → ℤ
guided_sample m odd a2 b2 a1 b1 p q v =
    mixed m (pass_result m.strong (guide_wide_at odd a2 p) (guide_wide_at odd b2 p) v (if odd then 8 else 9)) v (pass_result m.weak (cross_at a1 q) (cross_at b1 q) v 9)

-- g is the pass of a radius, for a set
pub record IsGuidePass (bd set radius : ℕ) (g : Guide) : Type 0 where
  pub wide : g.side ≡ box_side radius
  pub many : g.count ≡ count radius
  pub mean : g.one_by ≡ one_by (count radius)
  pub strong : g.strength ≡ strength set radius
  pub deep : g.shift ≡ bd - 8

-- m has the weights of a unit
pub record IsMixOf (bd set : ℕ) (xqd : List ℤ) (m : Mix) : Type 0 where
  pub strong : m.strong ≡ strength set 2
  pub weak : m.weak ≡ strength set 1
  pub w0 : m.w0 ≡ sample xqd 0
  pub w1 : m.w1 ≡ sample xqd 1
  pub w2 : m.w2 ≡ pos 128 -ℤ sample xqd 0 -ℤ sample xqd 1
  pub limits : rounding_of m.limits ≡ record { bits = 11; low = pos 0; high = pos (2 ^ bd - 1) }

-- A plan is that of a set and of weights, and the cells have the sums of a table, which has three columns
-- and rows more than the part on each side.
pub record IsPlanOf (bd set : ℕ) (xqd : List ℤ) (f : Table) (p : Plan) (step width height : ℕ) (cells squares : List ℕ) : Type 0 where
  pub depth : IsDepth bd
  pub two : IsGuidePass bd set 2 p.two
  pub one : IsGuidePass bd set 1 p.one
  pub mix : IsMixOf bd set xqd p.mix
  pub sums : HasCornerSums f step (width + 6) (height + 6) cells
  pub square_sums : HasCornerSums (squared f) step (width + 6) (height + 6) squares
  pub below : (x y : ℕ) → x < width + 6 → y < height + 6 → f x y < 2 ^ bd

-- the numbers of a plan are small enough for 32 bits
pub record IsGuidedPlan (p : Plan) : Type 0 where
  pub two : IsGuide p.two
  pub one : IsGuide p.one
  pub wide : p.two.side ≡ 5
  pub narrow : p.one.side ≡ 3
  pub mix : IsMix p.mix

-- Both lists of cells have the sums of a table of samples and of their squares, for a part of these sides.
pub record HasTable (bd : ℕ) (f : Table) (step width height : ℕ) (cells squares : List ℕ) : Type 0 where
  pub sums : HasCornerSums f step (width + 6) (height + 6) cells
  pub square_sums : HasCornerSums (squared f) step (width + 6) (height + 6) squares
  pub below : (x y : ℕ) → x < width + 6 → y < height + 6 → f x y < 2 ^ bd
