use Rattle.std.proofs.Common.{ℕ, ◌<◌, get_or}
use Rattle.av1_block.specs.declared.restoration_unit.RestorationUnit.{RestorationUnit}
use Rattle.av1_tiling.specs.Restoration.{IsUnit}
use Rattle.av1_lrf.proofs.tests.fill_units.Given as goal

abbrev pub invariant-loop-i : goal.invariant-loop-i
invariant-loop-i l = (k : ℕ) (d : RestorationUnit) → k < l.i → IsUnit (get_or l.units k d)
