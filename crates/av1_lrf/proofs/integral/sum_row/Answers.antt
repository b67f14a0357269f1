use Rattle.std.proofs.Common.{◌≡◌, ◌+◌, ◌*◌, ◌%◌, ◌^◌, ℕ, length, map, arith, ap, ◌∙◌}
use Rattle.std.specs.Prelude.{if◌then◌else◌, unsigned_abs}
use Rattle.std.proofs.lemmas.List.{length-map}
use Rattle.av1_lrf.specs.Sums.{total_of_first}
use Rattle.av1_lrf.specs.Rows.{sample, nearest_in_stripe}
use Rattle.av1_lrf.specs.Integral.{cell, row_entry}
use Rattle.av1_lrf.proofs.IntegralFacts.{cells_more, cells_size, total_more, cell_sum}
use Rattle.av1_lrf.proofs.integral.sum_row.Goals as goal

pub loop-i-preserved : goal.loop-i-preserved
loop-i-preserved g c =
    let row = map g.T.Pixel.number c.args.row.now in
    let long : length row ≡ length c.args.row.now = length-map c.args.row.now g.T.Pixel.number in
    let at : c.min-x.result ≡ nearest_in_stripe (length row) (c.args.at + c.loop-i.i) = omega arith in
    let entry : c.entry-sum.result ≡ row_entry c.args.squared row c.args.at c.loop-i.i =
    c.entry-sum.ensures ∙ ap (λ (k : ℕ). let v = unsigned_abs (sample row k) in if c.args.squared then v * v else v) at in
    let sum : (c.loop-i.sum + c.entry-sum.result) % 2 ^ 32 ≡ total_of_first (c.loop-i.i + 1) (row_entry c.args.squared row c.args.at) % 2 ^ 32 =
    ap (λ (v : ℕ). (c.loop-i.sum + v) % 2 ^ 32) entry ∙ total_more c.loop-i.i (row_entry c.args.squared row c.args.at) c.loop-i.sum c.loop-i.invariant.sum in
    let above : cell c.loop-i.cells (c.args.from + 1 + c.loop-i.i) ≡ cell c.args.cells.now (c.args.from + 1 + c.loop-i.i) = c.loop-i.invariant.cells.off (c.args.from + 1 + c.loop-i.i) (λ j lj. λ e. omega arith) in
    record {
      sum = sum;
      cells = cells_more _ _ _ _ _ _ (omega arith) (cell_sum _ _ _ _ above sum) c.loop-i.invariant.cells;
    }

pub returns : goal.returns
returns g c = cells_size _ _ _ _ _ _ (omega arith) c.loop-i.invariant.cells
