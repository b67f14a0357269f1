use Rattle.std.proofs.Common.{◌≡◌}
use Rattle.av1_cdef.specs.Sums.{total_below}
use Rattle.av1_cdef.specs.Direction.{line_cost}
use Rattle.av1_cdef.proofs.direction.cost_by.Given as goal

-- The cost is the sum of the first lines' costs.
abbrev pub invariant-loop-n : goal.invariant-loop-n
invariant-loop-n g l = l.cost ≡ total_below l.n (line_cost l.block g.row.D)
