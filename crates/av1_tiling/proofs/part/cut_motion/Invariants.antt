use Rattle.std.proofs.Common.{◌≡◌, map, take}
use Rattle.av1_tiling.specs.Frames.{motion_parts}
use Rattle.av1_tiling.specs.Views.{view_cut}
use Rattle.av1_tiling.proofs.part.cut_motion.Given as goal

-- The first tables are cut.
abbrev pub invariant-loop-table : goal.invariant-loop-table
invariant-loop-table l = map view_cut l.cuts.items ≡ motion_parts ((take l.table-index l.tables)) l.rect
