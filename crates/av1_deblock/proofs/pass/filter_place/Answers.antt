use Rattle.std.proofs.Common.{sym, ◌∙◌}
use Rattle.av1_deblock.specs.Levels.{edge_level}
use Rattle.av1_deblock.proofs.EdgeLists.{edge_missing, with_edges_none}
use Rattle.av1_deblock.proofs.pass.filter_place.Goals as goal

pub returns-else-is_edge-clause-value : goal.returns-else-is_edge-clause-value
returns-else-is_edge-clause-value g c =
    rw (edge_missing c.args.pass.now.grid (edge_level c.args.pass.now.deblock.now c.args.pass.now.level_index) c.args.rows.now c.args.u c.args.v (sym c.is_edge.ensures ∙ c.if-is_edge.false)) (sym (with_edges_none _ _ _ _))
