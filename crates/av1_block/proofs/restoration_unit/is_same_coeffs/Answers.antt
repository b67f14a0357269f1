use Rattle.std.proofs.Common.{refl}
use Rattle.std.proofs.lemmas.Bool.Decides.{Decides-int_eq}
use Rattle.std.proofs.lemmas.Slice.Eq.{slice_eq-Decides}
use Rattle.av1_block.proofs.restoration_unit.is_same_coeffs.Goals as goal

pub returns : goal.returns
returns c = slice_eq-Decides (λ xs ys. slice_eq-Decides Decides-int_eq xs ys _ refl) c.args.a c.args.b c.eq.result c.eq.ensures
