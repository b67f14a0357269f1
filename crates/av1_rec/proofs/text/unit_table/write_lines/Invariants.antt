use Rattle.std.proofs.Common.{◌≡◌, ◌<◌, ◌+◌, ◌*◌, ℕ, take, slice_index_or}
use Rattle.av1_block.specs.RestorationUnit.{no_unit}
use Rattle.av1_rec.specs.Units.{unit_after}
use Rattle.av1_rec.proofs.text.unit_table.write_lines.Given as goal

-- The table has the units that the first lines set.
abbrev pub invariant-loop-line : goal.invariant-loop-line
invariant-loop-line l =
    (x y : ℕ) → x < l.extent.width → y < l.extent.height → slice_index_or l.units (y * l.extent.width + x) no_unit ≡ unit_after no_unit (take l.line-index l.lines) l.p x y
