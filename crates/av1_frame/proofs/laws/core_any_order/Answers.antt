use Rattle.av1_frame.proofs.OrderRuns.{core_law}
use Rattle.av1_frame.proofs.laws.core_any_order.Goals as goal

pub returns : goal.returns
returns g c = core_law _
