use Rattle.av1_rec.proofs.TileFacts.{header_tiles}
use Rattle.av1_rec.proofs.tests.generates_a_small_frame.Goals as goal

pub generated-requires-clause-tiles : goal.generated-requires-clause-tiles
generated-requires-clause-tiles g c = header_tiles _ c.expect-tiling.result (rw c.expect-tiling.ensures at c.tiling_of.ensures.some)
