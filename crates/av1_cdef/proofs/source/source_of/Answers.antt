use Rattle.std.proofs.Common.{length, arith}
use Rattle.av1_cdef.specs.Analysis.{plane_picture}
use Rattle.av1_cdef.proofs.Analyses.{source_held, plane_room}
use Rattle.av1_cdef.proofs.source.source_of.Goals as goal

pub returns-clause-held : goal.returns-clause-held
returns-clause-held g c = λ bound d.
    let p = c.args.p.now in
    let room = plane_room (length p.samples.items) p.cfg.yorigin p.cfg.xorigin p.cfg.stride p.cfg.alloc_height p.cfg.width p.cfg.height p.stored p.high p.wide in
    let wide = p.wide in
    rw c.as_slice.ensures.value (source_held bound _ (plane_picture g.T.Pixel.number p) c.requires.narrow (omega arith) room d)
