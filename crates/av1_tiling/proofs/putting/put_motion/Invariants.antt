use Rattle.std.proofs.Common.{◌≡◌, map, take}
use Rattle.av1_tiling.specs.Puts.{put_motion}
use Rattle.av1_tiling.specs.Views.{view_cut}
use Rattle.av1_tiling.proofs.putting.put_motion.Given as goal

-- The parts of the first i tables are put back.
abbrev pub invariant-loop-i : goal.invariant-loop-i
invariant-loop-i l = l.tables ≡ put_motion (l.initial.tables) (take l.i (map view_cut l.cuts))
