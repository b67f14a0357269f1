use Rattle.std.proofs.Common.{◌≡◌, ◌++◌, ◌∷◌, [], map, sym, pos, refl}
use Rattle.std.specs.Prelude.{codes}
use Rattle.std.proofs.lemmas.List.{map_push}
use Rattle.av1_rec.specs.Fields.{tag}
use Rattle.av1_rec.specs.Lines.{row}
use Rattle.av1_rec.proofs.Samples.{row_more, row_end, line_is, line_wrong}
use Rattle.av1_rec.proofs.text.rows.row.Goals as goal

pub loop-preserved : goal.loop-preserved
loop-preserved g c =
    let f = g.T.Pixel.number in
    let e : map f c.push.new.self.items ≡ map f c.loop.samples.items ++ pos c.in-Some.n ∷ [] = rw (c.in_ok-push.ensures.items, map_push f c.loop.samples.items c.sample_of.result, c.sample_of.ensures) refl in
    rw e (row_more c.args.wide c.args.limit c.args.width c.loop.counter (map f c.loop.samples.items) c.in-Some.n c.loop.rest.now c.in-Some.after.now (row c.args.wide c.args.limit c.args.width c.args.text.now) c.loop-test.true (sym c.in-Some.ensures.value) c.loop.invariant)

pub returns-in-Some-tag : goal.returns-in-Some-tag
returns-in-Some-tag g c =
    let end = row_end c.args.wide c.args.limit c.args.width c.loop.counter (map g.T.Pixel.number c.loop.samples.items) c.loop.rest.now (row c.args.wide c.args.limit c.args.width c.args.text.now) c.loop-test.false c.loop.invariant in
    line_is (row c.args.wide c.args.limit c.args.width) c.args.text.now _ c.in-Some-tag.rest.now _ (tag (codes "\n") c.loop.rest.now) end (sym c.in-Some-tag.ensures)

pub returns : goal.returns
returns g c =
    let end = row_end c.args.wide c.args.limit c.args.width c.loop.counter (map g.T.Pixel.number c.loop.samples.items) c.loop.rest.now (row c.args.wide c.args.limit c.args.width c.args.text.now) c.loop-test.false c.loop.invariant in
    rw c.wrong-in-None.ensures (line_wrong (row c.args.wide c.args.limit c.args.width) c.args.text.now (map g.T.Pixel.number c.loop.samples.items) _ (tag (codes "\n") c.loop.rest.now) end (sym c.in-None.ensures))
