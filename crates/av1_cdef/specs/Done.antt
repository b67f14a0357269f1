-- Blocks of a region that have become a definition's blocks, one after another.
use Rattle.std.specs.Prelude.{ℕ, ℤ, pos, ◌≡◌, ◌≢◌, ◌<◌, ◌≤◌, ◌+◌, ◌*◌, ◌⊎◌, List, length}
use Rattle.std.specs.List.{slice_index_or}
use Rattle.av1_plane.specs.Region.{spot}

-- block (u, v) of the part from column x0 to x1 and from row y0 on, before block (bx, by) of it
pub record IsBefore (x0 x1 y0 bx by u v : ℕ) : Type 0 where
  pub left : x0 ≤ u
  pub right : u < x1
  pub top : y0 ≤ v
  pub order : (v < by) ⊎ ((v ≡ by) × (u < bx))

-- ys is xs with `value u v i j` at row i, column j of each block before (bx, by), of w by h samples
pub record HasFilteredBlocks (start step w h x0 x1 y0 bx by : ℕ) (value : ℕ → ℕ → ℕ → ℕ → ℤ) (xs ys : List ℤ) : Type 0 where
  pub long : length ys ≡ length xs
  pub on : (u v i j : ℕ) → IsBefore x0 x1 y0 bx by u v → i < h → j < w
      → slice_index_or ys (spot start step (w * u + j) (h * v + i)) (pos 0) ≡ value u v i j
  pub off : (k : ℕ) → ((u v i j : ℕ) → IsBefore x0 x1 y0 bx by u v → i < h → j < w → k ≢ spot start step (w * u + j) (h * v + i))
      → slice_index_or ys k (pos 0) ≡ slice_index_or xs k (pos 0)
