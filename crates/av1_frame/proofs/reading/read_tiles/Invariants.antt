use Rattle.std.proofs.Common.{◌≡◌, ◌-◌, ◌++◌, map}
use Rattle.std.specs.Prelude.{option_map}
use Rattle.av1_frame.specs.Framing.{parsed}
use Rattle.av1_frame.proofs.reading.read_tiles.Given as goal

-- The tiles read stand before the tiles that are still to be read.
abbrev pub invariant-loop : goal.invariant-loop
invariant-loop l =
    parsed l.size_bytes (l.tiles - 1) l.bytes
    ≡ option_map (λ more. map (λ tile. tile.items) l.list.items ++ more) (parsed l.size_bytes (l.tiles - l.counter) l.rest)
