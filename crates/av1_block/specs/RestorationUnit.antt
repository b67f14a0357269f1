-- A unit of loop restoration that leaves its samples as they are (AV1 specification, section 7.17).
use Rattle.av1_block.specs.declared.restoration_unit.RestorationUnit.{RestorationUnit}
use Rattle.av1_block.specs.declared.restoration_unit.RestorationFilter.TheVariants.{None}

-- the restoration unit without a filter
abbrev pub no_unit : RestorationUnit
no_unit = record { filter = None }
