use Rattle.std.proofs.Common.{◌≡◌, map, take, option_map}
use Rattle.std.specs.Arc.{arc_value}
use Rattle.av1_tiling.proofs.reference_frames_set.shared_frames.Given as goal

-- The slots before this one are copied.
abbrev pub invariant-loop-slot : goal.invariant-loop-slot
invariant-loop-slot g l = map (option_map (λ a. arc_value a)) l.copies.items ≡ map (option_map (λ a. arc_value a)) (take l.slot-index l.frames)
