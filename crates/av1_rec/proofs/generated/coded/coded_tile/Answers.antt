use Rattle.av1_rec.specs.Parameters.{frame_parameters}
use Rattle.av1_rec.proofs.TileFacts.{layout_shifts}
use Rattle.av1_rec.proofs.generated.coded.coded_tile.Goals as goal

pub coded_unit_lists-requires-clause-y : goal.coded_unit_lists-requires-clause-y
coded_unit_lists-requires-clause-y c =
    (layout_shifts (frame_parameters c.args.header.now c.args.tiling.now) c.args.layouts.now c.requires.layouts).0

pub coded_unit_lists-requires-clause-u : goal.coded_unit_lists-requires-clause-u
coded_unit_lists-requires-clause-u c =
    (layout_shifts (frame_parameters c.args.header.now c.args.tiling.now) c.args.layouts.now c.requires.layouts).1.0

pub coded_unit_lists-requires-clause-v : goal.coded_unit_lists-requires-clause-v
coded_unit_lists-requires-clause-v c =
    (layout_shifts (frame_parameters c.args.header.now c.args.tiling.now) c.args.layouts.now c.requires.layouts).1.1
