use Rattle.std.proofs.Common.{◌≡◌, ◌++◌, map, take}
use Rattle.std.specs.List.{flat_map}
use Rattle.av1_frame.specs.Framing.{with_size}
use Rattle.av1_frame.proofs.framing.extend_sized.Given as goal

-- The tiles before this one are framed.
abbrev pub invariant-loop-tile : goal.invariant-loop-tile
invariant-loop-tile l =
    l.group.items ≡ l.initial.group.items ++ flat_map (with_size l.size_bytes) (map (λ tile. tile.items) (take l.tile-index l.tiles))
