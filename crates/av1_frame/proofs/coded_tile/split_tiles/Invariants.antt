use Rattle.std.proofs.Common.{◌≡◌, ◌*◌, map}
use Rattle.av1_frame.specs.Coding.{tile_bytes, tile_views}
use Rattle.av1_frame.specs.Results.{result_of}
use Rattle.av1_frame.proofs.coded_tile.split_tiles.Given as goal

-- The bytes and the views of the tiles before this one are apart.
abbrev pub invariant-loop-tile : goal.invariant-loop-tile
invariant-loop-tile g l =
    (map (λ tile. tile.items) l.raw_tiles.items ≡ tile_bytes (map result_of l.yielded))
    × (l.contexts.items ≡ tile_views (map result_of l.yielded))
