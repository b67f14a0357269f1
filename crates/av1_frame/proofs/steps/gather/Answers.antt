use Rattle.std.proofs.Common.{◌≡◌, ℕ, false, get_or, set, sym, ◌∙◌, subst, arith, get_or-set_other, List, Bool, length-append}
use Rattle.std.specs.Slots.{slots_items, slots_filled}
use mathlib.Core.Logic.{dite}
use native.Mathlib.Decide.{ℕ_discrete}
use mathlib.Core.Option.{some}
use lib.ListN.{get_elem?}
use Rattle.av1_frame.proofs.Gathers.{set_false, gathered_more}
use Rattle.av1_frame.proofs.steps.gather.Goals as goal

pub loop-i-preserved : goal.loop-i-preserved
loop-i-preserved g c = let v = c.loop-i.invariant in let t = c.take-place.ensures in let p = c.push_reserved.ensures in
    let old = c.loop-i.closed in let filled : List Bool = slots_filled old.slots in
    record {
      left = λ k a b. rw t.others.1 (get_or-set_other filled c.loop-i.i k false false (λ e. omega arith) ∙ v.left k (omega arith) b);
      emptied = λ k h. rw t.others.1 (dite (ℕ_discrete k c.loop-i.i) (λ e. subst (λ (j : ℕ). get_or (set filled c.loop-i.i false) j false ≡ false) (sym e) (set_false filled c.loop-i.i))
          (λ ne. get_or-set_other filled c.loop-i.i k false false ne ∙ v.emptied k (omega arith)));
      same_words = t.others.3 ∙ v.same_words;
      same_items = t.others.0 ∙ v.same_items;
      same_len = t.others.2 ∙ v.same_len;
      long = rw p.items (omega (arith, length-append c.loop-i.results.items, v.long));
      room = rw p.capacity v.room;
      each = rw p.items (gathered_more (slots_items c.args.closed.words) (slots_items c.args.closed.slots) c.loop-i.results.items c.loop-i.i c.word-word.result c.take-place.result c.delivered.result v.each v.long
          (subst (λ w. get_elem? (slots_items w) c.loop-i.i ≡ some c.word-word.result) v.same_words c.word-word.ensures)
          (subst (λ l. get_elem? l c.loop-i.i ≡ some c.take-place.result) v.same_items t.value) c.delivered.ensures);
    }
