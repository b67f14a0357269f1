-- The views of the first tiles.
use Rattle.std.proofs.Common.{◌≡◌, ℕ, ◌+◌, List, [], ◌∷◌, ◌++◌, refl, add-one}
use Rattle.av1_block.specs.declared.block.Block.{Block}
use Rattle.av1_tiling.specs.declared.tiling_info.TilingInfo.{TilingInfo}
use Rattle.av1_tiling.specs.Frames.{State, views_below, view_of}

-- No tiles have no views.
pub views_below-zero : (t : TilingInfo) (s : State) (blocks : List Block) → views_below t s blocks 0 ≡ []
unfolding views_below
views_below-zero t s blocks = refl

-- One tile more adds its view at the end.
pub views_below-add_one : (t : TilingInfo) (s : State) (blocks : List Block) (n : ℕ) → views_below t s blocks (n + 1) ≡ views_below t s blocks n ++ view_of t s blocks n ∷ []
unfolding views_below
views_below-add_one t s blocks n = rw add-one refl

pub ruleset view_lists = (views_below-zero, views_below-add_one)
