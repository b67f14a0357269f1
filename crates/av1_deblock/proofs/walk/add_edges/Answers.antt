use Rattle.av1_deblock.specs.Levels.{fixed}
use Rattle.av1_deblock.specs.Edges.{blocks_in, edge_at}
use Rattle.av1_deblock.specs.Errors.{compared}
use Rattle.av1_deblock.proofs.Walks.{rows_none, rows_more}
use Rattle.av1_deblock.proofs.walk.add_edges.Goals as goal

pub loop-v-init : goal.loop-v-init
loop-v-init g c = rows_none (compared c.args.bd g.T.Pixel.number c.args.rec.now c.args.src.now) (λ level. edge_at c.args.g (fixed level) (blocks_in c.args.blocks.now)) c.args.g.cols c.args.entries.now

pub loop-v-preserved : goal.loop-v-preserved
loop-v-preserved g c = rows_more (compared c.args.bd g.T.Pixel.number c.args.rec.now c.args.src.now) (λ level. edge_at c.args.g (fixed level) (blocks_in c.args.blocks.now)) c.args.g.cols c.loop-v.v _ _ _ c.loop-v.invariant c.add_row.ensures
