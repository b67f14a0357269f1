use Rattle.std.proofs.Common.{rules, ◌≡◌, ℕ, pos, ap, sym}
use Rattle.std.specs.Arc.{arc_value}
use Rattle.av1_tiling.specs.Views.{view_frame}
use Rattle.av1_tiling.specs.Frames.{Parameters}
use Rattle.av1_frame.proofs.Blank.{blank_input}
use Rattle.av1_frame.proofs.table_tests.zero_state.Goals as goal

pub with_source-requires-clause-input : goal.with_source-requires-clause-input
with_source-requires-clause-input c =
    let kept : arc_value c.in_ok-input.input ≡ c.in_ok-frame.frame = search rules in
    let same = sym c.fi.view_is in
    blank_input (λ (x : ℕ). pos x) c.args.fi.now (view_frame (λ (x : ℕ). pos x) (arc_value c.in_ok-input.input)) c.in_ok-frame.frame c.fi.inside.width c.fi.inside.height c.fi.inside.sequence.chroma_sampling
    (ap (λ (p : Parameters). p.width) same) (ap (λ (p : Parameters). p.height) same) (ap (λ (p : Parameters). p.sequence.chroma_sampling) same)
    c.in_ok-frame.ensures (ap (view_frame (λ (x : ℕ). pos x)) kept)
