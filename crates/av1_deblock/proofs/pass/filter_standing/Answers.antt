use Rattle.std.proofs.Common.{◌≡◌, sym, ◌∙◌, ap}
use Rattle.av1_plane.specs.Region.{numbers_under, first_place, row_step}
use Rattle.av1_deblock.specs.Levels.{edge_level}
use Rattle.av1_deblock.specs.Edges.{current_in, previous_in, edge_size, edge_of}
use Rattle.av1_deblock.specs.Passes.{with_edge}
use Rattle.av1_deblock.proofs.EdgeLists.{edge_stands, with_edges_one}
use Rattle.av1_deblock.proofs.pass.filter_standing.Goals as goal

pub returns-clause-value : goal.returns-clause-value
returns-clause-value g c =
    let grid = c.args.pass.now.grid in
    let level = edge_level c.args.pass.now.deblock.now c.args.pass.now.level_index in
    let rows = c.args.rows.now in
    let e : c.standing_edge.result ≡ edge_of grid.vertical c.args.u c.args.v (record { size = edge_size grid (current_in grid rows c.args.u) (previous_in grid rows c.args.u); level = level (current_in grid rows c.args.u) (previous_in grid rows c.args.u) }) = cc in
    rw (edge_stands grid level rows c.args.u c.args.v c.requires.stands)
    (c.filter_edge.ensures.value ∙ (ap (with_edge c.args.pass.now.depth (first_place c.args.p.now) (row_step c.args.p.now) (numbers_under g.T.Pixel.number c.args.p.now)) e ∙ sym (with_edges_one _ _ _ _ _)))
