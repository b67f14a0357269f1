-- The self-guided filter (AV1 specification, sections 7.17.2 and 7.17.3): two passes, of radius 2 and 1,
-- each of which guides the sample by the mean and the variance of the squares around it.
--
-- A table gives the sample at each column and row. Around each sample that is filtered it has three
-- columns and rows more on each side.
use Rattle.std.specs.Prelude.{ℕ, ℤ, pos, ◌+◌, ◌-◌, ◌*◌, ◌/◌, ◌^◌, ◌+ℤ◌, ◌-ℤ◌, ◌*ℤ◌, Bool, List, [], nat_le, ◌==◌, if◌then◌else◌}
use Rattle.std.specs.List.{slice_index_or}
use Rattle.av1_tiling.specs.declared.restoration.TheConstants.{SGRPROJ_PARAMS_S}
use Rattle.av1_lrf.specs.Sums.{total_of_first, rounded_shift, round2, limited}
use Rattle.av1_lrf.specs.Rows.{sample}

-- the sample at each column and row
abbrev pub Table : Type 0
Table = ℕ → ℕ → ℕ

-- the strength of a set for the pass of a radius; 0 leaves the pass out
abbrev pub strength : ℕ → ℕ → ℕ
strength set radius = slice_index_or (slice_index_or SGRPROJ_PARAMS_S set []) (if radius == 2 then 0 else 1) 0

-- the side of the square of a radius
abbrev pub box_side : ℕ → ℕ
box_side radius = 2 * radius + 1

-- how many samples the square of a radius has
abbrev pub count : ℕ → ℕ
count radius = box_side radius * box_side radius

-- 2 ^ 12 divided by a count, rounded
abbrev pub one_by : ℕ → ℕ
one_by n = (2 ^ 12 + n / 2) / n

-- the sum over the square of side n whose first column and row these are
abbrev pub box : Table → ℕ → ℕ → ℕ → ℕ
box f n x y = total_of_first n (λ j. total_of_first n (λ i. f (x + i) (y + j)))

-- the squares of a table
abbrev pub squared : Table → Table
squared f x y = f x y * f x y

-- how much the samples of a square vary, by their sum and the sum of their squares
abbrev pub variation : ℕ → ℕ → ℕ → ℕ → ℕ
variation bd n sum squares =
    let a = rounded_shift squares (2 * (bd - 8)) in
    let d = rounded_shift sum (bd - 8) in
    a * n - d * d

-- the weight of the sample itself, of 256, by the variation and the set's number
abbrev pub weight : ℕ → ℕ → ℕ
weight p s =
    let z = rounded_shift (p * s) 20 in
    if nat_le 255 z then 256 else if z == 0 then 1 else (z * 256 + z / 2) / (z + 1)

-- the part that the mean has in a sample, by the weight of the sample itself
abbrev pub weighted_mean : ℕ → ℕ → ℕ → ℕ
weighted_mean n w sum = rounded_shift ((256 - w) * sum * one_by n) 12

-- the weight of the sample itself for the square of a radius round column x of row y
unfoldable pub own_weight : ℕ → ℕ → ℕ → Table → Table
own_weight bd radius s f x y =
    let n = box_side radius in
    weight (variation bd (count radius) (box f n (x - radius) (y - radius)) (box (squared f) n (x - radius) (y - radius))) s

-- the weighted mean for the square of a radius round column x of row y
unfoldable pub mean_part : ℕ → ℕ → ℕ → Table → Table
mean_part bd radius s f x y = weighted_mean (count radius) (own_weight bd radius s f x y) (box f (box_side radius) (x - radius) (y - radius))

-- 6 times the middle of three and 5 times both sides
abbrev pub row_sum : Table → Table
row_sum g x y = 5 * g (x - 1) y + 6 * g x y + 5 * g (x + 1) y

-- 4 times the centre and its four neighbours, 3 times the corners
abbrev pub cross_sum : Table → Table
cross_sum g x y =
    3 * g (x - 1) (y - 1) + 4 * g x (y - 1) + 3 * g (x + 1) (y - 1)
    + (4 * g (x - 1) y + 4 * g x y + 4 * g (x + 1) y)
    + (3 * g (x - 1) (y + 1) + 4 * g x (y + 1) + 3 * g (x + 1) (y + 1))

-- the weighted sums round column x of row y. With radius 2 only every other row has squares: a row
-- between two of them, an even one, takes both.
abbrev pub around : ℕ → Bool → Table → Table
around radius odd g x y =
    if radius == 2 then (if odd then row_sum g x y else row_sum g x (y - 1) + row_sum g x (y + 1))
    else cross_sum g x y

-- the logarithm of the sum of the weights round a sample, which is 32 or 16
abbrev pub around_bits : ℕ → Bool → ℕ
around_bits radius odd = if radius == 2 then (if odd then 4 else 5) else 5

-- the sample v after the pass of a radius, with 4 bits more
unfoldable pub pass : ℕ → ℕ → ℕ → Bool → Table → ℕ → ℕ → ℕ → ℕ
pass bd set radius odd f v x y =
    let s = strength set radius in
    if s == 0 then v * 16
    else rounded_shift (around radius odd (own_weight bd radius s f) x y * v + around radius odd (mean_part bd radius s f) x y) (8 + around_bits radius odd - 4)

-- the sample v, guided: both passes and the sample itself, by their weights
unfoldable pub guided : ℕ → ℕ → List ℤ → Bool → Table → ℕ → ℕ → ℕ → ℤ
guided bd set xqd odd f v x y =
    let w0 = sample xqd 0 in
    let w1 = sample xqd 1 in
    let w2 = pos 128 -ℤ w0 -ℤ w1 in
    limited (pos 0) (pos (2 ^ bd - 1)) (round2 (w0 *ℤ pos (pass bd set 2 odd f v x y) +ℤ w1 *ℤ pos (v * 16) +ℤ w2 *ℤ pos (pass bd set 1 odd f v x y)) 11)
