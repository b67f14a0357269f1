use Rattle.std.proofs.Common.{map}
use Rattle.std.proofs.lemmas.Result.{err_from_is_err_and}
use Rattle.std.proofs.lemmas.List.{map_push}
use Rattle.av1_rec.specs.Lines.{text_line, row, many}
use Rattle.av1_rec.proofs.Many.{many_more, many_fails, many_done}
use Rattle.av1_rec.proofs.text.rows.rows.Goals as goal

pub returns-in_err-one : goal.returns-in_err-one
returns-in_err-one g c =
    let read = text_line (row c.args.wide c.args.limit c.args.width) in
    let p = err_from_is_err_and c.from_residual.result c.from_residual.ensures.1 in
    rw (p.1, p.2) (many_fails read c.in_err-one.field-0.0 (map (λ v. map g.T.Pixel.number v.items) c.loop.rows.items) c.args.height c.loop.counter c.loop.rest.now (many read c.args.height c.args.text.now) c.loop-test.true c.in_err-one.ensures c.loop.invariant)

pub loop-preserved : goal.loop-preserved
loop-preserved g c =
    let read = text_line (row c.args.wide c.args.limit c.args.width) in
    let one = c.in_ok-one.one in
    rw (c.in_ok-push.ensures.items, map_push (λ v. map g.T.Pixel.number v.items) c.loop.rows.items one) (many_more read (map (λ v. map g.T.Pixel.number v.items) c.loop.rows.items) c.args.height c.loop.counter c.loop.rest.now (map g.T.Pixel.number one.items) c.in_ok-one.after.now (many read c.args.height c.args.text.now) c.loop-test.true c.in_ok-one.ensures c.loop.invariant)

pub returns : goal.returns
returns g c =
    let read = text_line (row c.args.wide c.args.limit c.args.width) in
    many_done read (map (λ v. map g.T.Pixel.number v.items) c.loop.rows.items) c.args.height c.loop.counter c.loop.rest.now (many read c.args.height c.args.text.now) c.loop-test.false c.loop.invariant
