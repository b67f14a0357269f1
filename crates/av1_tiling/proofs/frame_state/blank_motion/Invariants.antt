use Rattle.std.proofs.Common.{◌≡◌, replicate}
use Rattle.av1_tiling.specs.Motion.{blank_motion}
use Rattle.av1_tiling.proofs.frame_state.blank_motion.Given as goal

-- The tables made for the first references are without motion.
abbrev pub invariant-loop-reference : goal.invariant-loop-reference
invariant-loop-reference l = l.tables.items ≡ replicate l._reference (blank_motion l.cols l.rows)
