use Rattle.std.proofs.Common.{arith}
use Rattle.std.specs.Slots.{slots_items, slots_counts}
use Rattle.av1_frame.specs.Tables.{about}
use Rattle.av1_frame.proofs.Gathers.{each_result, each_claimed}
use Rattle.av1_frame.proofs.table.TileTable.close.Goals as goal

pub returns-clause-results : goal.returns-clause-results
returns-clause-results g c = each_result g.C.TileCoder.meaning (about c.args.self) c.args.seat.seat.id c.args.seat.seat.me.0 (slots_items c.close_with.result.words) (slots_items c.close_with.result.slots) c.close_with.ensures.values.2 c.gather.result.items c.gather.ensures.each

pub returns-clause-claimed : goal.returns-clause-claimed
returns-clause-claimed g c = each_claimed g.C.TileCoder.meaning (about c.args.self) c.args.seat.seat.id c.args.seat.seat.me.0 (slots_items c.close_with.result.words) (slots_items c.close_with.result.slots) c.close_with.ensures.values.2 c.gather.result.items c.gather.ensures.each
    c.args.seat.idle (let long = (slots_counts c.close_with.result.words).0 in let n = c.gather.result.ok.0 in omega (arith, c.gather.ensures.count, c.word_count-count.ensures, c.close_with.ensures.counts.0))
