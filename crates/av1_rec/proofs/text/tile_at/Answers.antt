use Rattle.av1_rec.specs.Parameters.{frame_parameters}
use Rattle.av1_rec.proofs.TileFacts.{layout_shifts}
use Rattle.av1_rec.proofs.text.tile_at.Goals as goal

pub tile_unit_extents-units-requires-clause-y : goal.tile_unit_extents-units-requires-clause-y
tile_unit_extents-units-requires-clause-y g c =
    (layout_shifts (frame_parameters c.args.header.now c.args.tiling.now) c.args.layouts.now c.requires.layouts).0

pub tile_unit_extents-units-requires-clause-u : goal.tile_unit_extents-units-requires-clause-u
tile_unit_extents-units-requires-clause-u g c =
    (layout_shifts (frame_parameters c.args.header.now c.args.tiling.now) c.args.layouts.now c.requires.layouts).1.0

pub tile_unit_extents-units-requires-clause-v : goal.tile_unit_extents-units-requires-clause-v
tile_unit_extents-units-requires-clause-v g c =
    (layout_shifts (frame_parameters c.args.header.now c.args.tiling.now) c.args.layouts.now c.requires.layouts).1.1
