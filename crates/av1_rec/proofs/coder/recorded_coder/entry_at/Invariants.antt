use Rattle.std.proofs.Common.{◌≡◌, ◌+◌, map, length}
use Rattle.av1_rec.specs.Recorded.{recorded_entry, recorded}
use Rattle.av1_rec.proofs.coder.recorded_coder.entry_at.Given as goal

-- No result before the rest belongs to the superblock, so the rest decides.
abbrev pub invariant-loop-tile : goal.invariant-loop-tile
invariant-loop-tile g l = record {
  value : recorded_entry l.tiling (l.x, l.y) l.n (map (recorded g.T.Pixel.number) l.rest) ≡ recorded_entry l.tiling (l.x, l.y) 0 (map (recorded g.T.Pixel.number) l.tiles);
  within : l.n + length l.rest ≡ length l.tiles;
}

-- Each turn of the loop takes a result off the rest.
abbrev pub decreases-loop-tile : goal.decreases-loop-tile
decreases-loop-tile g l = length l.rest
