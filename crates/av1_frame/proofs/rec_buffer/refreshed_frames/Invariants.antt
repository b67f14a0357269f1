use Rattle.std.proofs.Common.{◌≡◌, Some, map, option_map, take}
use Rattle.std.specs.Arc.{arc_value}
use Rattle.av1_frame.specs.RecBuffer.{refreshed_slots}
use Rattle.av1_frame.proofs.rec_buffer.refreshed_frames.Given as goal

-- the slots so far
abbrev pub invariant-loop-i : goal.invariant-loop-i
invariant-loop-i g l =
    map (option_map (λ a. arc_value a)) l.slots.items
    ≡ refreshed_slots l.flags (Some (arc_value l.reference)) (take l.i (map (option_map (λ a. arc_value a)) l.frames))
