use Rattle.av1_deblock.specs.Edges.{current_in, previous_in}
use Rattle.av1_deblock.proofs.EdgeFits.{stands_fits, edge_is_sound, not_first, stands_between}
use Rattle.av1_deblock.proofs.grid.standing_edge.Goals as goal

pub edge_before-requires-clause-half : goal.edge_before-requires-clause-half
edge_before-requires-clause-half c =
    rw (c.deblock_size.ensures, c.current_block-now.ensures.value, c.previous_block-prev.ensures.value) ((stands_fits c.args.g c.args.u c.args.v c.args.level (current_in c.args.g c.args.rows.now c.args.u) (previous_in c.args.g c.args.rows.now c.args.u) c.requires.grid c.requires.u c.requires.v (not_first c.args.g c.args.rows.now c.args.u c.args.v c.requires.stands) (stands_between c.args.g c.args.rows.now c.args.u c.args.v c.requires.stands)).0)

pub returns-clause-sound : goal.returns-clause-sound
returns-clause-sound c =
    rw (c.edge_before.ensures, c.deblock_size.ensures, c.current_block-now.ensures.value, c.previous_block-prev.ensures.value) (edge_is_sound c.args.g c.args.u c.args.v c.args.level (current_in c.args.g c.args.rows.now c.args.u) (previous_in c.args.g c.args.rows.now c.args.u) c.requires.level)

pub returns-clause-inside : goal.returns-clause-inside
returns-clause-inside c =
    rw (c.edge_before.ensures, c.deblock_size.ensures, c.current_block-now.ensures.value, c.previous_block-prev.ensures.value) ((stands_fits c.args.g c.args.u c.args.v c.args.level (current_in c.args.g c.args.rows.now c.args.u) (previous_in c.args.g c.args.rows.now c.args.u) c.requires.grid c.requires.u c.requires.v (not_first c.args.g c.args.rows.now c.args.u c.args.v c.requires.stands) (stands_between c.args.g c.args.rows.now c.args.u c.args.v c.requires.stands)).1)
