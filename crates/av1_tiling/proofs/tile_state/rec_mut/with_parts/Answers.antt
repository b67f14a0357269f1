use Rattle.std.proofs.Common.{refl, rules}
use Rattle.std.specs.Fn.{FnOnceReturnsAtMut}
use Rattle.av1_plane.specs.declared.tile_mut.TileMut.{TileMut}
use Rattle.av1_plane.specs.Tiles.{KeepsPlanes}
use Rattle.av1_tiling.specs.LentParts.{LendsParts, three_parts}
use Rattle.av1_tiling.proofs.tile_state.rec_mut.with_parts.Goals as goal

pub returns : goal.returns
returns g c =
    let a : TileMut g.row.T.Denot = record { planes = record { y = c.lent_part-y.result; u = c.lent_part-u.result; v = c.lent_part-v.result } } in
    let b : TileMut g.row.T.Denot = c.work.new.arg2 in
    let made : LendsParts g.T.Pixel.number c.args.places.now (three_parts g.T.Pixel.number c.args.y.now c.args.u.now c.args.v.now) a = search rules in
    let met : FnOnceReturnsAtMut g.F.FnOnce c.args.work a c.work.result b = record { shown = _; shows = refl; left = _; met = c.work.ensures; leaves = refl } in
    let kept : KeepsPlanes a b = c.requires.keeps a b c.work.result made met in
    (a, b, made, met, search rules, search rules, search rules)
