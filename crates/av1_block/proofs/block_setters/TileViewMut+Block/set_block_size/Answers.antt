use Rattle.std.proofs.Common.{rules}
use Rattle.av1_block.proofs.block_setters.TileViewMut+Block.set_block_size.Goals as goal

pub returns : goal.returns
returns c = c.set_each.ensures _ (λ before after called. rw (← c.width_mi.ensures, ← c.height_mi.ensures) (search rules))
