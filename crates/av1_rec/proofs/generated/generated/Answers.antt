use Rattle.av1_rec.proofs.GeneratedRows.{generated_read}
use Rattle.av1_rec.proofs.generated.generated.Goals as goal

pub returns-clause-read : goal.returns-clause-read
returns-clause-read c =
    generated_read _ c.args.seed c.requires.header c.requires.tiling c.requires.depth c.in_ok-source.ensures
