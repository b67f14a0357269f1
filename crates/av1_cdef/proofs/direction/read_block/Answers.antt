use Rattle.std.proofs.Common.{◌≡◌, ◌≤◌, ◌+◌, ◌*◌, ◌/◌, ◌^◌, pos, to_z, of_z, w32, get_or, map, ap, arith, ◌∙◌, sym}
use Rattle.std.specs.Int.RustNames.{unsigned_abs}
use Rattle.std.proofs.Math.Nat.{mul-le-mul_right}
use Rattle.std.proofs.lemmas.List.{get_or-map}
use Rattle.av1_plane.proofs.Places.{signed}
use Rattle.av1_cdef.proofs.BlockReads.{read_more, read_all}
use Rattle.av1_cdef.proofs.direction.read_block.Goals as goal

pub loop-j-preserved : goal.loop-j-preserved
loop-j-preserved g c =
    let f = g.T.Pixel.number in
    let rows : c.loop-i.i * c.args.step ≤ 7 * c.args.step = mul-le-mul_right c.args.step (omega arith) in
    let at = c.args.place + c.loop-i.i * c.args.step + c.loop-j.j in
    let v : c.to_i32.result ≡ get_or (map f c.args.samples.now) at (pos 0) =
    c.to_i32.ensures.value ∙ ap f c.index-samples-row.is ∙ sym (get_or-map f c.args.samples.now at _ (pos 0) (omega arith)) in
    let kept : to_z w32 (of_z w32 c.to_i32.result) ≡ get_or (map f c.args.samples.now) at (pos 0) = grind (arith, signed, v) in
    read_more _ _ _ _ _ _ _ _ (omega arith) (omega arith) (ap (λ z. unsigned_abs z / 2 ^ c.args.shift) kept) c.loop-j.invariant

pub returns : goal.returns
returns g c =
    let eight : c.loop-i.i ≡ 8 = omega arith in
    read_all _ _ _ _ _ (rw eight at c.loop-i.invariant)
