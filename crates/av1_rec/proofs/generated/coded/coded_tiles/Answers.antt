use Rattle.std.proofs.Common.{◌<◌, ℕ, subst}
use Rattle.av1_rec.proofs.generated.coded.coded_tiles.Goals as goal

pub coded_tile-requires-clause-tile : goal.coded_tile-requires-clause-tile
coded_tile-requires-clause-tile c =
    c.requires.tiles.each c.loop-n.n (subst (λ (k : ℕ). c.loop-n.n < k) c.tile_count-n-end.ensures c.loop-n-test.true)
