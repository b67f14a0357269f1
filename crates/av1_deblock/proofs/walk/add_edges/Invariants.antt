use Rattle.std.proofs.Common.{◌*◌}
use Rattle.av1_deblock.specs.Levels.{fixed}
use Rattle.av1_deblock.specs.Edges.{blocks_in, edge_at, edges_above}
use Rattle.av1_deblock.specs.Errors.{HasAdded, compared, edges_error}
use Rattle.av1_deblock.proofs.walk.add_edges.Given as goal

-- The errors of the edges in the first v rows are added.
abbrev pub invariant-loop-v : goal.invariant-loop-v
invariant-loop-v g l = HasAdded (70368744177664 * l.v) (λ level. edges_error (compared l.bd g.T.Pixel.number l.rec l.src) (edges_above (edge_at l.g (fixed level) (blocks_in l.blocks)) l.g.cols l.v)) l.initial.entries l.entries
