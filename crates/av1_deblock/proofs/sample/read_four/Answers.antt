use Rattle.std.proofs.Common.{refl}
use Rattle.av1_deblock.proofs.SideBySide.{four_placed}
use Rattle.av1_deblock.proofs.sample.read_four.Goals as goal

pub returns : goal.returns
returns g c = rw (c.put_four.ensures, c.read_run.ensures) (four_placed _ _ _ _ _ (refl))
