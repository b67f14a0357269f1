use Rattle.std.proofs.Common.{arith}
use Rattle.av1_lrf.proofs.SmallFrames.{one_more_unit}
use Rattle.av1_lrf.proofs.tests.fill_units.Goals as goal

pub loop-i-preserved : goal.loop-i-preserved
loop-i-preserved c k d l =
    one_more_unit c.loop-i.units c.args.unit c.loop-i.i k d c.requires (omega arith) c.loop-i.invariant l
