use Rattle.av1_tiling.proofs.Placed.{has_parts}
use Rattle.av1_tiling.proofs.laws.puts_have_parts.Goals as goal

pub returns : goal.returns
returns g c = has_parts
