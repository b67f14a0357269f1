use Rattle.std.proofs.Common.{◌<◌, ◌≤◌, ◌+◌, ◌*◌, length, map, sym, refl, ap, ◌∙◌, arith}
use Rattle.av1_block.proofs.Cuts.{with_cut-zero}
use Rattle.av1_block.proofs.Runs.{length-overwritten}
use Rattle.av1_rec.specs.Recorded.{joined}
use Rattle.av1_rec.proofs.RecordedRows.{run_fits, run_written}
use Rattle.av1_rec.proofs.coder.recorded_rows.write_rows.Goals as goal

pub loop-y-init : goal.loop-y-init
loop-y-init g c = record { value = sym (with_cut-zero (map g.T.Pixel.number c.args.table.now) c.args.cols 0 0 c.args.width (joined (map (λ row. map g.T.Pixel.number row.items) c.args.rows.now))); long = refl }

pub write_run-requires : goal.write_run-requires
write_run-requires g c =
    let below : c.loop-y.y < length c.args.rows.now = omega (arith, c.loop-y-test.true) in
    let fits = run_fits g.T.Pixel.number c.args.rows.now c.args.width c.loop-y.y c.index-rows-y.result c.deref.result.now c.requires.long below c.index-rows-y.is c.deref.ensures.value (length c.args.table.now) c.args.cols c.requires.inside in
    omega (arith, fits, c.loop-y.invariant.long)

pub loop-y-preserved : goal.loop-y-preserved
loop-y-preserved g c =
    let below : c.loop-y.y < length c.args.rows.now = omega (arith, c.loop-y-test.true) in
    let fits = run_fits g.T.Pixel.number c.args.rows.now c.args.width c.loop-y.y c.index-rows-y.result c.deref.result.now c.requires.long below c.index-rows-y.is c.deref.ensures.value (length c.args.table.now) c.args.cols c.requires.inside in
    let inside : c.loop-y.y * c.args.cols + length c.deref.result.now ≤ length c.loop-y.table = omega (arith, fits, c.loop-y.invariant.long) in
    record {
      value = run_written g.T.Pixel.number c.args.rows.now c.args.width c.loop-y.y c.index-rows-y.result c.deref.result.now c.requires.long below c.index-rows-y.is c.deref.ensures.value c.args.table.now c.loop-y.table c.write_run.new.table c.args.cols c.write_run.ensures c.loop-y.invariant.value;
      long = ap length c.write_run.ensures ∙ (length-overwritten c.loop-y.table (c.loop-y.y * c.args.cols) c.deref.result.now inside ∙ c.loop-y.invariant.long);
    }
