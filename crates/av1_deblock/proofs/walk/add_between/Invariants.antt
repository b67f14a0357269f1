use Rattle.std.proofs.Common.{◌*◌}
use Rattle.av1_deblock.specs.Levels.{fixed}
use Rattle.av1_deblock.specs.Edges.{edge_in_rows, row_edges}
use Rattle.av1_deblock.specs.Errors.{HasAdded, compared, edges_error}
use Rattle.av1_deblock.proofs.walk.add_between.Given as goal

-- The errors of the edges in the first u columns of the row are added.
abbrev pub invariant-loop-u : goal.invariant-loop-u
invariant-loop-u g l = HasAdded (4294967296 * l.u) (λ level. edges_error (compared l.bd g.T.Pixel.number l.rec l.src) (row_edges (edge_in_rows l.g (fixed level) l.rows) l.v l.u)) l.initial.entries l.entries
