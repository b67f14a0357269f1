use Rattle.std.proofs.lemmas.Result.{err_from_is_err_and}
use Rattle.av1_rec.specs.Lines.{text_line, many}
use Rattle.av1_rec.specs.Units.{unit_line}
use Rattle.av1_rec.proofs.Many.{many_more, many_fails, many_done}
use Rattle.av1_rec.proofs.text.tile_text.many_units.Goals as goal

pub returns-in_err-one : goal.returns-in_err-one
returns-in_err-one c =
    let read = text_line (unit_line c.args.units.now) in
    let p = err_from_is_err_and c.from_residual.result c.from_residual.ensures.1 in
    rw (p.1, p.2) (many_fails read c.in_err-one.field-0.0 c.loop.lines.items c.args.count c.loop.counter c.loop.rest.now (many read c.args.count c.args.text.now) c.loop-test.true c.in_err-one.ensures c.loop.invariant)

pub loop-preserved : goal.loop-preserved
loop-preserved c =
    let read = text_line (unit_line c.args.units.now) in
    rw c.in_ok-push.ensures.items (many_more read c.loop.lines.items c.args.count c.loop.counter c.loop.rest.now c.in_ok-one.one c.in_ok-one.after.now (many read c.args.count c.args.text.now) c.loop-test.true c.in_ok-one.ensures c.loop.invariant)

pub returns : goal.returns
returns c =
    let read = text_line (unit_line c.args.units.now) in
    many_done read c.loop.lines.items c.args.count c.loop.counter c.loop.rest.now (many read c.args.count c.args.text.now) c.loop-test.false c.loop.invariant
