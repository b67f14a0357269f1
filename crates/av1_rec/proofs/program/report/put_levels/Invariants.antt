use Rattle.std.proofs.Common.{◌≡◌, ◌++◌, take}
use Rattle.std.specs.List.{flat_map}
use Rattle.av1_rec.specs.Report.{spaced}
use Rattle.av1_rec.proofs.program.report.put_levels.Given as goal

-- The first levels are written.
abbrev pub invariant-loop-level : goal.invariant-loop-level
invariant-loop-level l = l.out.items ≡ l.initial.out.items ++ flat_map spaced (take l.level-index l.levels)
