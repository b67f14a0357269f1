use Rattle.std.proofs.Common.{◌≡◌, ℕ, rules, pos, sym, ap, subst}
use Rattle.std.specs.Arc.{arc_value}
use Rattle.av1_plane.specs.declared.sampling.ChromaSampling.TheVariants.{Cs420}
use Rattle.av1_tiling.specs.Views.{view_frame}
use Rattle.av1_tiling.specs.Frames.{Parameters, IsInputFor}
use Rattle.av1_tiling.proofs.Blank.{blank_input}
use Rattle.av1_tiling.proofs.tests.blank_state.Goals as goal

pub with_source-requires-clause-input : goal.with_source-requires-clause-input
with_source-requires-clause-input c =
    let number = λ (x : ℕ). pos x in
    let input : arc_value c.in_ok-new.field-0 ≡ c.in_ok-input.input = search rules in
    let same = sym c.fi.view_is in
    subst (IsInputFor c.args.fi.now) (sym (ap (view_frame number) input))
    (blank_input number c.args.fi.now c.in_ok-input.input c.fi.inside.width c.fi.inside.height Cs420 (ap (λ (p : Parameters). p.width) same) (ap (λ (p : Parameters). p.height) same)
    c.requires.sampling c.in_ok-input.ensures)
