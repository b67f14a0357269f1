use Rattle.std.proofs.Common.{◌≡◌, ◌+◌, pos, to_z, of_z, w32, get_or, map, ap, arith, ◌∙◌, sym}
use Rattle.std.specs.Int.RustNames.{unsigned_abs}
use Rattle.std.proofs.lemmas.List.{get_or-map}
use Rattle.av1_plane.proofs.Places.{signed}
use Rattle.av1_cdef.proofs.Pads.{run_more, plain_is}
use Rattle.av1_cdef.proofs.pad.put_cells.Goals as goal

pub loop-k-preserved : goal.loop-k-preserved
loop-k-preserved g c =
    let f = g.T.Pixel.number in
    let v : c.to_i32.result ≡ get_or (map f c.args.samples.now) (c.args.from + c.loop-k.k) (pos 0) =
    c.to_i32.ensures.value ∙ ap f c.index-samples-from.is ∙ sym (get_or-map f c.args.samples.now (c.args.from + c.loop-k.k) _ (pos 0) (omega arith)) in
    let kept : to_z w32 (of_z w32 c.to_i32.result) ≡ get_or (map f c.args.samples.now) (c.args.from + c.loop-k.k) (pos 0) = grind (arith, signed, v) in
    run_more _ _ _ _ _ _ (omega arith) c.loop-k.invariant (ap unsigned_abs kept ∙ plain_is (map f c.args.samples.now) c.args.from c.loop-k.k)
