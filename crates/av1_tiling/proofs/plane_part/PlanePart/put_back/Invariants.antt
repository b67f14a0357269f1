use Rattle.std.proofs.Common.{◌≡◌}
use Rattle.av1_block.specs.Cut.{with_cut}
use Rattle.av1_tiling.specs.PlaneParts.{part_samples}
use Rattle.av1_tiling.proofs.plane_part.PlanePart.put_back.Given as goal

-- The first rows of the part are put into the plane.
abbrev pub invariant-loop-row : goal.invariant-loop-row
invariant-loop-row g l = l.stored ≡ with_cut l.initial.stored l.self.stride l.self.x l.self.y l.self.plane.cfg.stride l.row (part_samples l.self)
