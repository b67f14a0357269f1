use Rattle.av1_frame.specs.Tables.{claimed, missed}
use Rattle.av1_frame.proofs.Turns.{joins_seen}
use Rattle.av1_frame.proofs.workers.+fn-spread-join+arg2+fn-spread-join+arg3+spread.Goals as goal

pub returns-clause-all : goal.returns-clause-all
returns-clause-all g t c n h = joins_seen (claimed c.join-seat.result.0) (missed c.join-seat.result.0) (claimed c.join-seat.result.1) (missed c.join-seat.result.1) (claimed c.join.new.seat) (missed c.join.new.seat) n
    c.join.ensures.claimed c.join.ensures.missed (c.join-seat.ensures.first.1 n h)
