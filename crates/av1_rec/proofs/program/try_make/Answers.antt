use Rattle.std.proofs.Common.{◌+◌, ◌^◌}
use Rattle.av1_rec.specs.Told.{LosesCount}
use Rattle.av1_rec.proofs.Ends.{never_too_long}
use Rattle.av1_rec.proofs.program.try_make.Goals as goal

pub returns-in-Ok-clause-too_long : goal.returns-in-Ok-clause-too_long
returns-in-Ok-clause-too_long g c =
    let lost = LosesCount (g.S.Source.left c.args.source.now) (g.S.Source.left c.read_text.new.source) (2 ^ 28 + 1) in
    never_too_long lost c.answer_of-in-Ok.result c.answer_of-in-Ok.ensures.kind
