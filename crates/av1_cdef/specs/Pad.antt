-- The cells of a block of w by h samples and of two more on each side. The cell at column 2 of row 2
-- is the block's first sample.
use Rattle.std.specs.Prelude.{ℕ, ℤ, pos, ◌≡◌, ◌<◌, ◌≤◌, ◌+◌, ◌-◌, ◌*◌, ◌≢◌, Bool, ◌&&◌, ◌||◌, not, nat_lt, nat_le, List, length, slice_index, if◌then◌else◌}
use Rattle.std.specs.List.{slice_index_or}
use Rattle.std.specs.Int.RustNames.{unsigned_abs}
use Rattle.av1_cdef.specs.declared.pad.Sides.{Sides}

-- whether a cell beside n samples lies past an end at which the plane ends
abbrev pub missing : ℕ → ℕ → Bool → Bool → Bool
missing k n before after = (nat_lt k 2 && not before) || (nat_le (n + 2) k && not after)

-- ys is xs with `value k` at place at + k, for k below n
pub record HasCellRun (at n : ℕ) (value : ℕ → ℕ) (xs ys : List ℕ) : Type 0 where
  pub long : length ys ≡ length xs
  pub on : (k : ℕ) → k < n → slice_index ys (at + k) ≡ value k
  pub off : (i : ℕ) → ((k : ℕ) → k < n → i ≢ at + k) → slice_index ys i ≡ slice_index xs i

-- the samples from a place on, as cells
unfoldable pub plain_cells : List ℤ → ℕ → ℕ → ℕ
plain_cells xs from k = unsigned_abs (slice_index_or xs (from + k) (pos 0))

-- cells of samples that the plane does not have
unfoldable pub none_cells : ℕ → ℕ
none_cells k = 0x8000

-- two cells beside a row: samples if the plane goes on there, else missing ones
unfoldable pub side_cells : List ℤ → ℕ → Bool → ℕ → ℕ
side_cells xs from side k = if side then unsigned_abs (slice_index_or xs (from + k) (pos 0)) else 0x8000

-- a row of w samples from a place on, with two cells more on each side
unfoldable pub row_cells : List ℤ → ℕ → ℕ → Bool → Bool → ℕ → ℕ
row_cells xs place w left right k =
    if missing k w left right then 0x8000 else unsigned_abs (slice_index_or xs (place + k - 2) (pos 0))

-- row y of a block's cells; the plane has no row past its ends
unfoldable pub window_cells : List ℤ → ℕ → ℕ → ℕ → ℕ → Sides → ℕ → ℕ → ℕ
window_cells xs place step w h s y k =
    if missing y h s.top s.bottom then 0x8000 else row_cells xs (place + y * step - 2 * step) w s.left s.right k

-- n samples hold the block at a place, and two more on each side where the plane goes on
pub record HoldsWindow (n place step w h : ℕ) (s : Sides) : Type 0 where
  pub before : (if s.top then 2 * step else 0) + (if s.left then 2 else 0) ≤ place
  pub after : place + (h + (if s.bottom then 2 else 0)) * step + w + (if s.right then 2 else 0) ≤ n + step

-- ys is xs with `value y k` at entry k of row y, for k below w + 4 and y below h
pub record HasPaddedCells (stride w h : ℕ) (value : ℕ → ℕ → ℕ) (xs ys : List ℕ) : Type 0 where
  pub long : length ys ≡ length xs
  pub on : (y k : ℕ) → y < h → k < w + 4 → slice_index ys (y * stride + k) ≡ value y k
  pub off : (i : ℕ) → ((y k : ℕ) → y < h → k < w + 4 → i ≢ y * stride + k) → slice_index ys i ≡ slice_index xs i
