use Rattle.av1_frame.specs.Tables.{claimed, missed}
use Rattle.av1_frame.proofs.Turns.{turned}
use Rattle.av1_frame.proofs.workers.work.Goals as goal

pub loop-tile-preserved : goal.loop-tile-preserved
loop-tile-preserved g c = record {
  seat = c.turn.ensures.seat;
  seen = turned (claimed c.loop-tile.seat) (missed c.loop-tile.seat) (claimed c.turn.new.seat) (missed c.turn.new.seat) c.loop-tile.tile c.turn.result c.turn.ensures.claimed c.turn.ensures.missed c.loop-tile.invariant.seen;
}
