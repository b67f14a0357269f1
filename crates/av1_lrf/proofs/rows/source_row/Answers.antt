use Rattle.std.proofs.Common.{arith}
use Rattle.av1_lrf.proofs.StripeFacts.{above_row, inside_row, below_row, above_list, inside_list, below_list}
use Rattle.av1_lrf.proofs.rows.source_row.Goals as goal

pub returns-then-at-start-clause-value : goal.returns-then-at-start-clause-value
returns-then-at-start-clause-value g c = λ x l.
    above_row _ _ _ _ _ (c.visible_row.ensures.value x l) (omega arith) (omega arith)

pub returns-then-at-stop-clause-value : goal.returns-then-at-stop-clause-value
returns-then-at-stop-clause-value g c = λ x l.
    inside_row _ _ _ _ _ (c.visible_row-then-at-stop.ensures.value x l) (omega arith) (omega arith) (omega arith)

pub returns-else-at-stop-clause-value : goal.returns-else-at-stop-clause-value
returns-else-at-stop-clause-value g c = λ x l.
    below_row _ _ _ _ _ (c.visible_row-else-at-stop.ensures.value x l) (omega arith) (omega arith) (omega arith)

pub returns-then-at-start-clause-row : goal.returns-then-at-start-clause-row
returns-then-at-start-clause-row g c = above_list _ _ c.args.e c.args.y _ _ c.visible_row.ensures.row (omega arith) (omega arith)

pub returns-then-at-stop-clause-row : goal.returns-then-at-stop-clause-row
returns-then-at-stop-clause-row g c = inside_list _ _ c.args.e c.args.y _ _ c.visible_row-then-at-stop.ensures.row (omega arith) (omega arith) (omega arith)

pub returns-else-at-stop-clause-row : goal.returns-else-at-stop-clause-row
returns-else-at-stop-clause-row g c = below_list _ _ c.args.e c.args.y _ _ c.visible_row-else-at-stop.ensures.row (omega arith) (omega arith) (omega arith)

pub returns-then-at-start-clause-range : goal.returns-then-at-start-clause-range
returns-then-at-start-clause-range g c = λ bound he hd. c.visible_row.ensures.range bound hd

pub returns-then-at-stop-clause-range : goal.returns-then-at-stop-clause-range
returns-then-at-stop-clause-range g c = λ bound he hd. c.visible_row-then-at-stop.ensures.range bound he

pub returns-else-at-stop-clause-range : goal.returns-else-at-stop-clause-range
returns-else-at-stop-clause-range g c = λ bound he hd. c.visible_row-else-at-stop.ensures.range bound hd
