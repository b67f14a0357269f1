use Rattle.av1_tiling.proofs.Placed.{puts_in_any_order}
use Rattle.av1_tiling.proofs.laws.puts_go_in_any_order.Goals as goal

pub returns : goal.returns
returns g c = puts_in_any_order
