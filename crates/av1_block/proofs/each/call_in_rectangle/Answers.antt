use Rattle.std.proofs.Common.{◌≡◌, ℕ, suc, ◌+◌, ◌*◌, ◌≤◌, List, length, take, drop, sym, ◌∙◌, subst, arith}
use Rattle.av1_block.specs.declared.block.Block.{Block}
use Rattle.av1_block.specs.Cut.{LiesIn, cut_of}
use Rattle.av1_block.specs.Each.{Takes, Leaves}
use Rattle.av1_block.proofs.Cuts.{length_row, with_cut-zero, row_inside}
use Rattle.av1_block.proofs.FirstRows.{first_rows}
use Rattle.av1_block.proofs.Related.{related_none, next_row, All-next_row}
use Rattle.av1_block.proofs.each.call_in_rectangle.Goals as goal

pub loop-row-init : goal.loop-row-init
loop-row-init g c =
    let a = c.args in
    let all : List Block = a.entries.now in
    record {
      changed = related_none (Leaves g.F.Fn a.f.now) all a.cols a.x a.y a.width;
      elsewhere = sym (with_cut-zero all a.cols a.x a.y a.width (cut_of all a.cols a.x a.y a.width 0));
    }

pub loop-row-preserved : goal.loop-row-preserved
loop-row-preserved g c =
    let a = c.args in
    let row = c.loop-row.row in
    let from : ℕ = a.y * a.cols + row * a.cols + a.x in
    let old : List Block = c.loop-row.entries in
    let new : List Block = c.call_on_run.new.entries in
    let next : row + 1 ≡ suc row = omega arith in
    let last : a.y * a.cols + row * a.cols + a.x + a.width ≤ length a.entries.now = row_inside (length a.entries.now) a.cols a.x a.y a.width a.height row c.requires.inside c.loop-row-test.true in
    let inside : LiesIn (length a.entries.now) a.cols a.x a.y a.width (suc row) =
    subst (λ (n : ℕ). LiesIn (length a.entries.now) a.cols a.x a.y a.width n) next (first_rows (length a.entries.now) a.cols a.x a.y a.width a.height row c.requires.inside c.loop-row-test.true) in
    let long : length (take a.width (drop from new)) ≡ a.width =
    c.call_on_run.ensures.changed.same ∙ length_row old a.width from (omega (arith, last, c.loop-row.auto.entries)) in
    let step = next_row (Leaves g.F.Fn a.f.now) a.entries.now old a.cols a.x a.y a.width row (take a.width (drop from new)) inside long c.loop-row.invariant.elsewhere
    from (row + 1) new (omega arith) next c.call_on_run.ensures.elsewhere c.loop-row.invariant.changed c.call_on_run.ensures.changed in
    record { changed = step.0; elsewhere = step.1 }

pub call_on_run-requires-clause-callable : goal.call_on_run-requires-clause-callable
call_on_run-requires-clause-callable g c =
    let a = c.args in
    let row = c.loop-row.row in
    All-next_row (Takes g.F.Fn a.f.now) a.entries.now c.loop-row.entries a.cols a.x a.y a.width a.height row (a.y * a.cols + row * a.cols + a.x) c.requires.inside c.loop-row-test.true (omega arith)
    c.loop-row.invariant.elsewhere c.requires.callable
