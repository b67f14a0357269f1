use Rattle.std.proofs.Common.{◌≡◌, ◌+◌, pos, get_or, map, ap, sym, ◌∙◌, arith}
use Rattle.std.proofs.lemmas.List.{get_or-map, map-set}
use Rattle.av1_plane.proofs.Runs.{placed_more}
use Rattle.av1_cdef.proofs.run.put_samples.Goals as goal

pub loop-j-preserved : goal.loop-j-preserved
loop-j-preserved g c =
    let f = g.T.Pixel.number in
    let k = c.args.first + c.loop-j.j in
    let v : f c.index-from-first.result ≡ get_or (map f c.args.from.now) k (pos 0) =
    ap f c.index-from-first.is ∙ sym (get_or-map f c.args.from.now k _ (pos 0) (omega arith)) in
    map-set f c.loop-j.row (c.args.x + c.loop-j.j) c.index-from-first.result
    ∙ (rw (v, c.loop-j.invariant) (sym (placed_more (map f c.args.row.now) c.args.x (map f c.args.from.now) c.args.first c.loop-j.j)))
