use Rattle.av1_rec.proofs.TileFacts.{header_tiles}
use Rattle.av1_rec.proofs.text.tiled_header.Goals as goal

pub returns-in-Some-clause-tiles : goal.returns-in-Some-clause-tiles
returns-in-Some-clause-tiles c = header_tiles c.in_ok-header.header c.in-Some.tiling c.in-Some.ensures.some
