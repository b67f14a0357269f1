use Rattle.std.proofs.Common.{map}
use Rattle.av1_plane.proofs.Runs.{numbers-run}
use Rattle.av1_cdef.proofs.run.copy_run.Goals as goal

pub returns-clause-value : goal.returns-clause-value
returns-clause-value g c =
    numbers-run g.T.Pixel.number c.args.p.now c.row_mut-row.result.now c.put_samples.new.row c.args.x c.args.y (map g.T.Pixel.number c.args.from.now) c.args.first c.args.n c.requires.stored c.requires.x c.requires.y c.row_mut-row.ensures.row c.put_samples.ensures
