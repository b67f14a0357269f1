use Rattle.av1_deblock.specs.Levels.{fixed}
use Rattle.av1_deblock.specs.Edges.{edge_in_rows}
use Rattle.av1_deblock.specs.Errors.{compared}
use Rattle.av1_deblock.proofs.Walks.{row_none, row_more}
use Rattle.av1_deblock.proofs.walk.add_between.Goals as goal

pub loop-u-init : goal.loop-u-init
loop-u-init g c = row_none (compared c.args.bd g.T.Pixel.number c.args.rec.now c.args.src.now) (λ level. edge_in_rows c.args.g (fixed level) c.args.rows.now) c.args.v c.args.entries.now

pub loop-u-preserved : goal.loop-u-preserved
loop-u-preserved g c = row_more (compared c.args.bd g.T.Pixel.number c.args.rec.now c.args.src.now) (λ level. edge_in_rows c.args.g (fixed level) c.args.rows.now) c.args.v c.loop-u.u _ _ _ c.loop-u.invariant c.add_place.ensures
