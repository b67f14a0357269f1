use Rattle.std.proofs.Common.{◌+◌, ◌*◌}
use Rattle.av1_frame.proofs.workers.+fn-spread-join+arg2+fn-spread-join+arg3+spread.Given as goal

-- The first half of the workers is smaller than all of them.
abbrev pub decreases-join+arg2 : goal.decreases-join+arg2
decreases-join+arg2 g l = 2 * l.half + 1

-- The other workers are fewer than all of them.
abbrev pub decreases-join+arg3 : goal.decreases-join+arg3
decreases-join+arg3 g l = 2 * l.rest + 1

-- Each call spreads fewer workers.
abbrev pub decreases-spread : goal.decreases-spread
decreases-spread g l = 2 * l.count
