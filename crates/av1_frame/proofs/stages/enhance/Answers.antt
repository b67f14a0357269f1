use Rattle.std.proofs.Common.{sym, subst}
use Rattle.av1_tiling.specs.Views.{view_frame}
use Rattle.av1_tiling.specs.Frames.{IsInputFor}
use Rattle.av1_frame.proofs.EnhancedRange.{cdef_input}
use Rattle.av1_frame.proofs.stages.enhance.Goals as goal

pub returns-then-fi-clause-range : goal.returns-then-fi-clause-range
returns-then-fi-clause-range g c =
    let p = c.args.fi.now in
    let f = c.args.deblocked.now in
    let blocks = c.args.blocks.now.entries in
    subst (IsInputFor p) (sym (λ i. record { y = c.cdef_planes.ensures.y i; u = c.cdef_planes.ensures.u i; v = c.cdef_planes.ensures.v i }))
    (cdef_input p blocks (view_frame g.T.Pixel.number f) f.planes.y.wide f.planes.u.wide f.planes.v.wide c.requires.deblocked)
