use Rattle.std.proofs.Common.{◌≡◌, ◌+◌, length}
use Rattle.av1_rec.specs.Tile.{line_length}
use Rattle.av1_rec.proofs.text.tile_text.line_length.Given as goal

-- The bytes counted and the rest of the text give the length of the line.
abbrev pub invariant-loop-c : goal.invariant-loop-c
invariant-loop-c l = record {
  value : l.count + line_length l.rest ≡ line_length l.text;
  within : l.count + length l.rest ≡ length l.text;
}

-- Each turn of the loop takes a byte off the rest.
abbrev pub decreases-loop-c : goal.decreases-loop-c
decreases-loop-c l = length l.rest
