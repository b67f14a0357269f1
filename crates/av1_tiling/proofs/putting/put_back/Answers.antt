use Rattle.std.proofs.Common.{◌≡◌, ℕ, ◌+◌, ◌≤◌, List, [], ◌∷◌, ◌++◌, length, get_or, take, sym, ap, subst, ◌∙◌, add-one, arith}
use Rattle.std.proofs.Math.Seq.{take-suc, take-length}
use Rattle.av1_tiling.specs.Views.{View}
use Rattle.av1_tiling.specs.Puts.{tables_of, put_view, coded_tables}
use Rattle.av1_tiling.specs.Coded.{AreCoded, ViewLies}
use Rattle.av1_tiling.proofs.Placed.{coded_have, put_view_lies}
use Rattle.av1_tiling.proofs.PutBack.{coded_tables-none, coded_tables-push}
use Rattle.av1_tiling.proofs.putting.put_back.Goals as goal

pub loop-context-init : goal.loop-context-init
loop-context-init g c = record { coded = sym (coded_tables-none _); lies = c.requires.lies }

pub put_back-requires : goal.put_back-requires
put_back-requires g c = subst (ViewLies (tables_of g.T.Pixel.number c.loop-context.rec c.loop-context.me c.loop-context.units c.loop-context.blocks)) (sym c.context-item.is)
    (c.loop-context.invariant.lies c.loop-context.context-index c.context-item.result c.loop-context-test.true)

pub loop-context-preserved : goal.loop-context-preserved
loop-context-preserved g c =
    let contexts = c.args.contexts.now in
    let i = c.loop-context.context-index in
    let more : take (i + 1) contexts ≡ take i contexts ++ c.context-item.result ∷ [] =
    rw add-one (take-suc contexts i c.context-item.result c.loop-context-test.true ∙ ap (λ (v : View). take i contexts ++ v ∷ []) (sym c.context-item.is)) in
    let before = tables_of g.T.Pixel.number c.loop-context.rec c.loop-context.me c.loop-context.units c.loop-context.blocks in
    let here : ViewLies before c.context-item.result = subst (ViewLies before) (sym c.context-item.is) (c.loop-context.invariant.lies i c.context-item.result c.loop-context-test.true) in
    record {
      coded = rw more (c.put_back.ensures ∙ (ap (λ t. put_view t c.context-item.result) c.loop-context.invariant.coded ∙ sym (coded_tables-push _ (take i contexts) c.context-item.result)));
      lies = λ k d l. subst (λ t. ViewLies t (get_or contexts k d)) (sym c.put_back.ensures) (put_view_lies before c.context-item.result (get_or contexts k d) here (c.loop-context.invariant.lies k d l));
    }

-- after the loop all were put back
all_taken : (contexts : List View) (i : ℕ) → i ≤ length contexts → length contexts ≤ i → take i contexts ≡ contexts
all_taken contexts i l m = ap (λ (n : ℕ). take n contexts) (let e : i ≡ length contexts = omega arith in e) ∙ take-length contexts

pub returns : goal.returns
returns g c =
    let contexts = c.args.contexts.now in
    let old = tables_of g.T.Pixel.number c.args.rec.now c.args.me.now c.args.units.now c.args.blocks.now in
    let whole = all_taken contexts c.loop-context.context-index c.loop-context.auto.context-index-end c.loop-context-test.false in
    let made = c.loop-context.invariant.coded ∙ ap (coded_tables old) whole in
    subst (AreCoded contexts old) (sym made) (coded_have old contexts c.requires.lies c.requires.apart)
