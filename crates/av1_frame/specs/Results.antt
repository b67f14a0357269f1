-- The results of tiles as the code holds them.
use Rattle.std.specs.Prelude.{Option, Some, None}
use Rattle.av1_frame.specs.declared.coded_tile.CodedTile.{CodedTile}
use Rattle.av1_frame.specs.Coding.{Meaning}

-- a tile's bytes and the view that its coder left, or nothing where it was refused
abbrev pub result_of : {X : Type 0} → Option (CodedTile X) → Meaning
result_of None = None
result_of (Some tile) = Some (tile.bytes.items, tile.context)
