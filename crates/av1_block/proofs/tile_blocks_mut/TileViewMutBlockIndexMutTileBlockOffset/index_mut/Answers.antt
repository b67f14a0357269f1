use Rattle.std.proofs.Common.{refl}
use Rattle.av1_block.specs.Block.{default_block}
use Rattle.av1_block.proofs.Views.{same_view}
use Rattle.av1_block.proofs.tile_blocks_mut.TileViewMutBlockIndexMutTileBlockOffset.index_mut.Goals as goal

pub returns : goal.returns
returns c = (
  (refl {a = c.entry_mut.result.ghost_name}, λ w. same_view _ _ refl refl),
  record { lends = tt; block = c.entry_mut.ensures.entry default_block },
)
