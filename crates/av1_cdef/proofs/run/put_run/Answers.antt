use Rattle.std.proofs.Common.{◌≡◌, ◌+◌, ◌<◌, pos, to_z, of_z, w32, get_or, map, length, ap, sym, ◌∙◌, zero-add, arith}
use Rattle.std.proofs.lemmas.List.{get_or-map, map-set, length-map}
use Rattle.av1_plane.specs.Numbers.{InDepth}
use Rattle.av1_plane.proofs.Places.{signed}
use Rattle.av1_plane.proofs.Runs.{placed_more}
use Rattle.av1_cdef.proofs.run.put_run.Goals as goal

pub from_i32-requires-clause-high : goal.from_i32-requires-clause-high
from_i32-requires-clause-high g c =
    let kept : to_z w32 (of_z w32 c.from.result) ≡ c.from.result = grind (arith, signed) in
    let is : get_or (map pos c.args.from.now) c.loop-j.j (pos 0) ≡ c.from.result = get_or-map pos c.args.from.now c.loop-j.j 0 (pos 0) (omega arith) ∙ sym c.from.ensures in
    let long : c.loop-j.j < length (map pos c.args.from.now) = let m = length-map c.args.from.now pos in omega arith in
    let low : InDepth g.T.Pixel.limit (get_or (map pos c.args.from.now) c.loop-j.j (pos 0)) = c.requires.range.each c.loop-j.j (pos 0) long in
    rw kept (rw is at low).1

pub loop-j-preserved : goal.loop-j-preserved
loop-j-preserved g c =
    let f = g.T.Pixel.number in
    let kept : to_z w32 (of_z w32 c.from.result) ≡ c.from.result = grind (arith, signed) in
    let v : f c.from_i32.result ≡ get_or (map pos c.args.from.now) (0 + c.loop-j.j) (pos 0) =
    c.from_i32.ensures ∙ kept ∙ c.from.ensures ∙ sym (get_or-map pos c.args.from.now c.loop-j.j 0 (pos 0) (omega arith)) ∙ ap (λ k. get_or (map pos c.args.from.now) k (pos 0)) (sym (zero-add c.loop-j.j)) in
    map-set f c.loop-j.row (c.args.x + c.loop-j.j) c.from_i32.result
    ∙ (rw (v, c.loop-j.invariant) (sym (placed_more (map f c.args.row.now) c.args.x (map pos c.args.from.now) 0 c.loop-j.j)))
