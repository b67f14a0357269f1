use Rattle.std.proofs.Common.{ap, subst}
use Rattle.std.specs.Arc.{arc_value}
use Rattle.av1_tiling.specs.Views.{AreFull}
use Rattle.av1_tiling.specs.Frames.{State}
use Rattle.av1_tiling.proofs.ViewPlaces.{full_frame}
use Rattle.av1_frame.proofs.group.are_whole.Goals as goal

pub returns-clause-planes : goal.returns-clause-planes
returns-clause-planes g c = subst AreFull (ap (λ (t : State). t.rec) c.fs.view_is) (full_frame g.T.Pixel.number (arc_value c.fs.inside.rec))
