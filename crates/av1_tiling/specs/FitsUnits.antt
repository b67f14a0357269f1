-- How restoration units lie in tiles, along one side.
use Rattle.std.specs.Prelude.{ℕ, ◌≡◌, ◌⊎◌, ◌%◌, ◌^◌, ◌≤◌}
use Rattle.std.specs.Int.{div_ceil}

-- along one side: `count` units of 2 ^ shift superblocks are no more than cover the frame, and where
-- there are several tiles, each begins with a unit
pub record FitsUnits (shift count tiles tile_sb frame_sb : ℕ) : Type 0 where
  pub aligned : (tiles ≡ 1) ⊎ (tile_sb % 2 ^ shift ≡ 0)
  pub covered : count ≤ div_ceil frame_sb (2 ^ shift)
