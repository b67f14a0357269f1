use Rattle.std.proofs.Common.{◌≡◌, ◌+◌, ◌*◌, pos, map, refl, sym, ap, ◌∙◌, arith}
use Rattle.av1_rec.specs.Generated.{source_row, state_after}
use Rattle.av1_rec.proofs.Draws.{no_draw, row_of_draws}
use Rattle.av1_rec.proofs.FirstValues.{values_more}
use Rattle.av1_rec.proofs.generated.picture.source_plane.Goals as goal

pub loop-row-init : goal.loop-row-init
loop-row-init c =
    let none : 0 * c.args.sides.width ≡ 0 = omega arith in
    record {
      made = rw c.in_ok-made.ensures.items refl;
      state = sym (ap (state_after c.args.state.now) none ∙ no_draw c.args.state.now);
    }

pub loop-row-preserved : goal.loop-row-preserved
loop-row-preserved c =
    let width = c.args.sides.width in
    let row = c.loop-row.row in
    let seed = c.args.state.now in
    let before = c.loop-row.invariant.state in
    let more : row * width + width ≡ (row + 1) * width = omega arith in
    record {
      made = values_more (λ r. map (λ x. pos x) r.items) _ c.loop-row.made.items c.push.new.self.items c.in_ok-source_row.field-0 row c.in_ok-push.ensures.items c.loop-row.invariant.made
          (c.in_ok-source_row.ensures.value ∙ ap (source_row c.args.p row width) before);
      state = c.in_ok-source_row.ensures.state ∙ ap (λ s. state_after s width) before ∙ row_of_draws seed (row * width) width ∙ ap (state_after seed) more;
    }
