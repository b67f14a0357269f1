use Rattle.std.proofs.Common.{pos, refl, sym, ap, ◌∙◌}
use Rattle.av1_rec.specs.Generated.{next_state, source_sample}
use Rattle.av1_rec.proofs.Draws.{no_draw, one_draw}
use Rattle.av1_rec.proofs.FirstValues.{values_more}
use Rattle.av1_rec.proofs.generated.picture.source_row.Goals as goal

pub loop-column-init : goal.loop-column-init
loop-column-init c = record { made = rw c.in_ok-made.ensures.items refl; state = sym (no_draw c.args.state.now) }

pub loop-column-preserved : goal.loop-column-preserved
loop-column-preserved c =
    let state = c.next_state.ensures ∙ ap next_state c.loop-column.invariant.state ∙ one_draw c.args.state.now c.loop-column.column in
    record {
      made = values_more (λ x. pos x) _ c.loop-column.made.items c.push.new.self.items c.source_sample.result c.loop-column.column c.in_ok-push.ensures.items c.loop-column.invariant.made (ap pos (c.source_sample.ensures ∙ ap (source_sample c.args.p c.args.row c.loop-column.column) state));
      state = state;
    }
