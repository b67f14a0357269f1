use Rattle.av1_frame.proofs.OrderTables.{coded_law}
use Rattle.av1_frame.proofs.laws.coded_any_order.Goals as goal

pub returns : goal.returns
returns c = coded_law
