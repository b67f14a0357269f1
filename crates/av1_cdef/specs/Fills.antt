-- The rows of a block with zeros around them: cells in rows of 16, of which each row's first stands at
-- entry `o` and the next row's at entry o + 16.
use Rattle.std.specs.Prelude.{ℕ, ◌≡◌, ◌<◌, ◌≤◌, ◌+◌, ◌-◌, ◌*◌, ◌&&◌, nat_le, nat_lt, List, length, slice_index, if◌then◌else◌}
use Rattle.av1_cdef.specs.Direction.{sample_in_block}

-- cell j of row i is a sample
unfoldable pub row_cell : List ℕ → ℕ → ℕ → ℕ
row_cell block i j = sample_in_block block i j

-- two neighbouring cells of row i, added
unfoldable pub pair_cell : List ℕ → ℕ → ℕ → ℕ
pair_cell block i j = sample_in_block block i (2 * j) + sample_in_block block i (2 * j + 1)

-- entry k of row i, whose w cells stand from entry o on
abbrev pub padded_block : ℕ → ℕ → (ℕ → ℕ) → ℕ → ℕ
padded_block w o f k = if nat_le o k && nat_lt k (o + w) then f (k - o) else 0

-- rows of w cells, with zeros before and after
pub record IsPaddedBlock (w o : ℕ) (f : ℕ → ℕ → ℕ) (cells : List ℕ) : Type 0 where
  pub long : length cells ≡ 140
  pub small : (m : ℕ) → m < 140 → slice_index cells m ≤ 510
  pub at : (i k : ℕ) → i < 8 → k < o + 16 → slice_index cells (16 * i + k) ≡ padded_block w o (f i) k
