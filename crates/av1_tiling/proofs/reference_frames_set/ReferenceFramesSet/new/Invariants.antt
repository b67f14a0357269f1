use Rattle.std.proofs.Common.{◌≡◌, map, option_map, replicate, None}
use Rattle.std.specs.Arc.{arc_value}
use Rattle.av1_tiling.proofs.reference_frames_set.ReferenceFramesSet.new.Given as goal

-- The slots made are empty.
abbrev pub invariant-loop-slot : goal.invariant-loop-slot
invariant-loop-slot g l = map (option_map (λ a. arc_value a)) l.frames.items ≡ replicate l._slot None
