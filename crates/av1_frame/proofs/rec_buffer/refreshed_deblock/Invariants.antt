use Rattle.std.proofs.Common.{◌≡◌, take}
use Rattle.av1_frame.specs.RecBuffer.{refreshed_slots}
use Rattle.av1_frame.proofs.rec_buffer.refreshed_deblock.Given as goal

-- the slots so far
abbrev pub invariant-loop-i : goal.invariant-loop-i
invariant-loop-i l = l.slots.items ≡ refreshed_slots l.flags l.state (take l.i l.states)
