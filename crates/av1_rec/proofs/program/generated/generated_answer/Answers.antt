use Rattle.av1_rec.proofs.TileFacts.{header_tiles}
use Rattle.av1_rec.proofs.program.generated.generated_answer.Goals as goal

pub generated-requires-clause-tiles : goal.generated-requires-clause-tiles
generated-requires-clause-tiles g c = header_tiles _ c.in-Some.tiling c.in-Some.ensures.some
