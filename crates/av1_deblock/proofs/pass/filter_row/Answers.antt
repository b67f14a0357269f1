use Rattle.std.proofs.Common.{◌∙◌, ap}
use Rattle.av1_deblock.specs.Levels.{edge_level}
use Rattle.av1_deblock.specs.Edges.{blocks_in}
use Rattle.av1_deblock.specs.Passes.{filtered, raster_under}
use Rattle.av1_deblock.proofs.EdgeLists.{rows_of_table}
use Rattle.av1_deblock.proofs.pass.filter_row.Goals as goal

pub returns-clause-value : goal.returns-clause-value
returns-clause-value g c =
    c.filter_between.ensures.value
    ∙ ap (filtered (raster_under c.args.pass.now.depth g.T.Pixel.number c.args.p.now)) (rows_of_table c.args.pass.now.grid (edge_level c.args.pass.now.deblock.now c.args.pass.now.level_index) (blocks_in c.args.blocks.now) _ c.args.v c.block_rows-rows.ensures.same)
