use Rattle.std.proofs.Common.{map, pos}
use Rattle.av1_plane.proofs.Runs.{numbers-run}
use Rattle.av1_cdef.proofs.run.write_run.Goals as goal

pub returns-clause-value : goal.returns-clause-value
returns-clause-value g c =
    numbers-run g.T.Pixel.number c.args.p.now c.row_mut-row.result.now c.put_run.new.row c.args.x c.args.y (map pos c.args.from.now) 0 _ c.requires.stored c.requires.x c.requires.y c.row_mut-row.ensures.row c.put_run.ensures
