use Rattle.std.proofs.Common.{refl}
use Rattle.av1_tiling.proofs.LeastFacts.{not_past_40, tile_log2-from}
use Rattle.av1_tiling.proofs.tile_limits.reached_log2.Goals as goal

pub unreachable-requires : goal.unreachable-requires
unreachable-requires c = not_past_40 _ _ c.requires.block.0 c.requires.block.1 c.requires.target (c.in-None.ensures.none.0 refl)

pub returns-clause-value : goal.returns-clause-value
returns-clause-value c = tile_log2-from _ _ _ c.in-Some.ensures.least
