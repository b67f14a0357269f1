use Rattle.av1_frame.specs.AtHome.{AtHome}
use Rattle.av1_frame.specs.Tables.{about}
use Rattle.av1_frame.proofs.ClaimSteps.{splits_any}
use Rattle.av1_frame.proofs.table.TileTable.split.Goals as goal

pub split_seat-requires : goal.split_seat-requires
split_seat-requires g c = (c.requires.0, c.args.self.now.nonempty, splits_any (AtHome g.C.TileCoder.meaning) (about c.args.self.now) c.args.seat.now.seat.id c.args.seat.now.seat.me.0 c.args.seat.now.idle)
