use Rattle.std.proofs.Common.{ap, sym, ◌∙◌, slice_index_or, ◌++◌, ◌∷◌, []}
use Rattle.std.proofs.lemmas.List.{get_or_default}
use Rattle.av1_frame.proofs.Refreshing.{refreshed_more, new_chosen, old_chosen}
use Rattle.av1_frame.proofs.rec_buffer.refreshed_deblock.Goals as goal
use Rattle.av1_frame.proofs.rec_buffer.refreshed_deblock.Goals.{then-is_refreshed, else-is_refreshed}

pub loop-i-preserved : goal.loop-i-preserved
loop-i-preserved c =
    let states = c.args.states.now in
    let i = c.loop-i.i in
    let inside = c.loop-i-test.true in
    let old = slice_index_or states i c.args.state in
    c.in_ok-push.ensures.items
    ∙ (ap (λ xs. xs ++ c.if-is_refreshed.push ∷ []) c.loop-i.invariant
    ∙ refreshed_more c.args.flags c.args.state states i c.if-is_refreshed.push c.args.state inside
    (elim c.if-is_refreshed.branch [
      | then-is_refreshed w ↦ new_chosen _ _ old _ (sym c.is_refreshed.ensures ∙ w.if-is_refreshed.true) w.push-is
      | else-is_refreshed w ↦ old_chosen _ _ old _ (sym c.is_refreshed.ensures ∙ w.if-is_refreshed.false)
          (w.push-is ∙ get_or_default states i _ c.args.state inside)
    ]))
