use Rattle.std.proofs.Common.{◌≡◌, length}
use Rattle.std.specs.List.{list_all}
use Rattle.av1_frame.specs.Units.{is_unit}
use Rattle.av1_frame.proofs.units.are_units.Given as goal

-- All units before the rest are such as a bitstream can describe, so the rest decides.
abbrev pub invariant-loop-unit : goal.invariant-loop-unit
invariant-loop-unit l = list_all is_unit l.rest ≡ list_all is_unit l.units

-- Each turn of the loop takes a unit off the rest.
abbrev pub decreases-loop-unit : goal.decreases-loop-unit
decreases-loop-unit l = length l.rest
