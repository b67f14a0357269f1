use Rattle.std.proofs.Common.{◌⊎◌, ℕ, ◌<◌}
use Rattle.av1_frame.specs.Claims.{Has}
use Rattle.av1_frame.specs.Tables.{claimed, missed, IsSeatOf}
use Rattle.av1_frame.proofs.workers.work.Given as goal

-- The seat has claimed or missed each tile before this one.
abbrev pub invariant-loop-tile : goal.invariant-loop-tile
invariant-loop-tile g l = record {
  seat : IsSeatOf l.table l.seat;
  seen : (n : ℕ) → n < l.tile → Has (claimed l.seat) n ⊎ Has (missed l.seat) n;
}
