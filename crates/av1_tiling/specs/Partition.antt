-- Rectangles that cut a table into parts.
use Rattle.std.specs.Prelude.{ℕ, ◌≡◌, ◌+◌, ◌<◌, ◌≤◌}
use Rattle.av1_plane.specs.declared.tile_rect.TileRect.{TileRect}
use Rattle.av1_block.specs.Cut.{IsInside}

-- the rectangles numbered below `count` cut a table of `width` columns by `height` rows into parts:
-- each place lies in exactly one of them
pub record Partitions (rect : ℕ → TileRect) (count width height : ℕ) : Type 0 where
  pub inside : (n : ℕ) → n < count → ((rect n).x + (rect n).width ≤ width) × ((rect n).y + (rect n).height ≤ height)
  pub covered : (x y : ℕ) → x < width → y < height → (n : ℕ) × (n < count) × IsInside (rect n) x y
  pub apart : (m n x y : ℕ) → m < count → n < count → IsInside (rect m) x y → IsInside (rect n) x y → m ≡ n
