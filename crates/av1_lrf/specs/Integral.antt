-- Prefix sums of a table: the sums over all rectangles that begin at its corner.
use Rattle.std.specs.Prelude.{ℕ, ℤ, ◌+◌, ◌*◌, ◌%◌, ◌^◌, ◌<◌, ◌≡◌, ◌≢◌, List, length, unsigned_abs, Bool, if◌then◌else◌}
use Rattle.av1_lrf.specs.Rows.{sample, nearest_in_stripe, Scene, stripe_source}
use Rattle.std.specs.List.{slice_index_or}
use Rattle.av1_lrf.specs.Sums.{total_of_first}
use Rattle.av1_lrf.specs.Guided.{Table}

-- the sum over the first c columns of the first r rows
unfoldable pub corner_sum : Table → ℕ → ℕ → ℕ
corner_sum f c r = total_of_first r (λ y. total_of_first c (λ x. f x y))

-- a cell of a list, 0 past its end
abbrev pub cell : List ℕ → ℕ → ℕ
cell xs i = slice_index_or xs i 0

-- cells in rows of `step` have the sums of up to `cols` columns and up to `rows` rows, modulo 2 ^ 32
pub record HasCornerSums (f : Table) (step cols rows : ℕ) (cells : List ℕ) : Type 0 where
  pub each : (c r : ℕ) → c < cols + 1 → r < rows + 1 → cell cells (r * step + c) ≡ corner_sum f c r % 2 ^ 32

-- After is before with n cells from `at` on as given, and all else as it was.
pub record HasSumRun (at n : ℕ) (value : ℕ → ℕ) (before after : List ℕ) : Type 0 where
  pub on : (i : ℕ) → i < n → cell after (at + i) ≡ value i
  pub off : (k : ℕ) → ((i : ℕ) → i < n → k ≢ at + i) → cell after k ≡ cell before k
  pub long : length after ≡ length before

-- what a row of the table adds: the samples of a row, or their squares, from a place that counts from 3
-- before it
abbrev pub row_entry : Bool → List ℤ → ℕ → ℕ → ℕ
row_entry squared row at i =
    let v = unsigned_abs (sample row (nearest_in_stripe (length row) (at + i))) in
    if squared then v * v else v

-- what a stripe's filters read from column x and row y on, which count from 3 before the picture
abbrev pub source_from : Scene → ℕ → ℕ → Table
source_from s x y i j = unsigned_abs (stripe_source s (x + i) (y + j))

-- a table, or its squares
abbrev pub squared_if : Bool → Table → Table
squared_if b f i j = if b then f i j * f i j else f i j
