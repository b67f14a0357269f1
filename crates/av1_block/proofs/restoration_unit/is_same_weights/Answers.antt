use Rattle.std.proofs.lemmas.Bool.Decides.{Decides-int_eq}
use Rattle.std.proofs.lemmas.Slice.Eq.{slice_eq-Decides}
use Rattle.av1_block.proofs.restoration_unit.is_same_weights.Goals as goal

pub returns : goal.returns
returns c = slice_eq-Decides Decides-int_eq c.args.a c.args.b c.eq.result c.eq.ensures
