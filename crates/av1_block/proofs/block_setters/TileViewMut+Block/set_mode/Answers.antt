use Rattle.std.proofs.Common.{rules}
use Rattle.av1_block.proofs.block_setters.TileViewMut+Block.set_mode.Goals as goal

pub returns : goal.returns
returns c = c.set_each.ensures _ (λ before after called. search rules)
