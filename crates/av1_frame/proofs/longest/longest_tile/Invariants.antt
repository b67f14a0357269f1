use Rattle.std.proofs.Common.{◌≡◌, ◌*◌, map, take}
use Rattle.av1_frame.specs.Framing.{greatest, longest}
use Rattle.av1_frame.proofs.longest.longest_tile.Given as goal

-- The last of the longest tiles before n is found, with its length.
abbrev pub invariant-loop-n : goal.invariant-loop-n
invariant-loop-n l =
    let tiles = map (λ tile. tile.items) (take l.n l.tiles) in
    (l.longest.tile ≡ longest tiles) × (l.longest.len ≡ greatest tiles)
