use Rattle.std.proofs.Common.{◌≡◌, ◌+◌, ◌*◌, ◌<◌, ◌≤◌, [], length, map, get_or, ap, ◌∙◌, sym, arith}
use Rattle.std.proofs.lemmas.Grind.{common_steps}
use Rattle.std.proofs.lemmas.List.{length-map}
use Rattle.av1_rec.specs.Lines.{numbers_of}
use Rattle.av1_rec.proofs.Pictures.{fits_of, row_of, row_more, run_fits, numbers_written}
use Rattle.av1_rec.proofs.frame.picture.write_picture.Goals as goal

pub overflow_add-top-in-loop-y : goal.overflow_add-top-in-loop-y
overflow_add-top-in-loop-y g c =
    let rs = numbers_of g.T.Pixel.number c.args.rows.now in
    let below : c.loop-y.y < length c.args.rows.now = omega (arith, c.loop-y-test.true) in
    let fits : c.args.left + length (get_or rs c.loop-y.y []) ≤ c.args.stride = fits_of g.T.Pixel.number c.args.left c.args.stride c.args.rows.now c.requires.across c.loop-y.y below in
    let inside : c.args.top * c.args.stride + c.loop-y.y * c.args.stride + c.args.left + length (get_or rs c.loop-y.y []) ≤ length c.args.samples.now =
    run_fits c.args.stride c.args.left c.args.top c.loop-y.y (length c.args.rows.now) (length (get_or rs c.loop-y.y [])) (length c.args.samples.now) below fits c.requires.down in
    grind (arith, common_steps, inside)

pub loop-y-preserved : goal.loop-y-preserved
loop-y-preserved g c =
    let number = g.T.Pixel.number in
    let rs = numbers_of number c.args.rows.now in
    let count : length rs ≡ length c.args.rows.now = length-map c.args.rows.now (λ row. map number row.items) in
    let below : c.loop-y.y < length c.args.rows.now = omega (arith, c.loop-y-test.true) in
    let read : get_or rs c.loop-y.y [] ≡ map number c.deref.result.now =
    row_of number c.args.rows.now c.loop-y.y c.index-rows-y.result below c.index-rows-y.is ∙ sym (ap (map number) c.deref.ensures.value) in
    let stored : length (map number c.loop-y.samples) ≡ length c.args.samples.now = length-map c.loop-y.samples number ∙ c.loop-y.auto.samples in
    row_more c.args.stride c.args.left c.args.top c.loop-y.y rs (map number c.loop-y.samples) (map number c.write_run.new.table) (map number c.deref.result.now) read (omega (arith, count, below))
    (λ k l. fits_of number c.args.left c.args.stride c.args.rows.now c.requires.across k (omega (arith, count, l))) (rw count (omega (arith, stored, c.requires.down)))
    (numbers_written number c.loop-y.samples c.write_run.new.table c.deref.result.now (c.args.top * c.args.stride + c.loop-y.y * c.args.stride + c.args.left) c.write_run.ensures)
    c.loop-y.invariant
