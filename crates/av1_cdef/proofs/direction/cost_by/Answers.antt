use Rattle.std.proofs.Common.{◌≡◌, ◌+◌, get_or, arith, ◌∙◌, ap}
use Rattle.av1_cdef.specs.Sums.{total_below}
use Rattle.av1_cdef.specs.Direction.{line_sum, line_cost}
use Rattle.av1_cdef.proofs.Lines.{costs_most, line_square_most, cost_16, sum_below_more}
use Rattle.av1_cdef.proofs.direction.cost_by.Goals as goal

pub overflow_mul-cost : goal.overflow_mul-cost
overflow_mul-cost g c =
    let s : get_or c.sum_lines.new.sums c.loop-n.n 0 ≡ line_sum c.args.block.now g.row.D c.loop-n.n = c.sum_lines.ensures c.loop-n.n (omega arith) in
    rw (c.from-sum.ensures, s) (let m = line_square_most c.args.block.now g.row.D c.loop-n.n c.requires.direction (omega arith) c.requires.block c.requires.bytes in omega arith)

pub overflow_mul-cost-in-loop-n : goal.overflow_mul-cost-in-loop-n
overflow_mul-cost-in-loop-n g c =
    let s : get_or c.sum_lines.new.sums c.loop-n.n 0 ≡ line_sum c.args.block.now g.row.D c.loop-n.n = c.sum_lines.ensures c.loop-n.n (omega arith) in
    rw (c.from-sum.ensures, s, c.share_of.ensures)
    (let m = costs_most c.args.block.now g.row.D (c.loop-n.n + 1) c.requires.direction (omega arith) c.requires.block c.requires.bytes in
    let e = sum_below_more c.loop-n.n (line_cost c.args.block.now g.row.D) in omega arith)

pub overflow_add-cost : goal.overflow_add-cost
overflow_add-cost g c =
    let s : get_or c.sum_lines.new.sums c.loop-n.n 0 ≡ line_sum c.args.block.now g.row.D c.loop-n.n = c.sum_lines.ensures c.loop-n.n (omega arith) in
    rw (c.from-sum.ensures, s, c.share_of.ensures, c.loop-n.invariant)
    (let m = costs_most c.args.block.now g.row.D (c.loop-n.n + 1) c.requires.direction (omega arith) c.requires.block c.requires.bytes in
    let e = sum_below_more c.loop-n.n (line_cost c.args.block.now g.row.D) in omega arith)

pub returns : goal.returns
returns g c =
    let e : c.loop-n.n ≡ 16 = omega arith in
    c.loop-n.invariant ∙ ap (λ n. total_below n (line_cost c.args.block.now g.row.D)) e ∙ cost_16 c.args.block.now g.row.D c.requires.direction
