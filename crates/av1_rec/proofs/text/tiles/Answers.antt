use Rattle.std.proofs.Common.{◌<◌, ◌≤◌, ◌*◌, ℕ, map, subst}
use Rattle.std.proofs.lemmas.Result.{err_from_is_err_and}
use Rattle.std.proofs.lemmas.List.{map_push}
use Rattle.av1_rec.specs.Lines.{numbered}
use Rattle.av1_rec.specs.Recorded.{recorded}
use Rattle.av1_rec.specs.Text.{tile_at, tiles}
use Rattle.av1_rec.proofs.Numbered.{numbered_more, numbered_fails, numbered_done}
use Rattle.av1_rec.proofs.text.tiles.Goals as goal

pub tile_at-requires-clause-tile : goal.tile_at-requires-clause-tile
tile_at-requires-clause-tile g c =
    c.requires.tiles.each c.loop-n.n (subst (λ (k : ℕ). c.loop-n.n < k) c.tile_count-n-end.ensures c.loop-n-test.true)

pub returns-in_err-one : goal.returns-in_err-one
unfolding tiles
returns-in_err-one g c =
    let t = c.args.tiling.now in
    let count = t.cols * t.rows in
    let read = tile_at c.args.header.now t in
    let inside : c.loop-n.n < count = subst (λ (k : ℕ). c.loop-n.n < k) c.tile_count-n-end.ensures c.loop-n-test.true in
    let p = err_from_is_err_and c.from_residual-in_err-one.result c.from_residual-in_err-one.ensures.1 in
    rw (p.1, p.2) (numbered_fails read c.in_err-one.field-0.0 (map (recorded g.T.Pixel.number) c.loop-n.tiles.items) count c.loop-n.n c.loop-n.rest.now (numbered read 0 count c.args.text.now) inside c.in_err-one.ensures c.loop-n.invariant)

pub loop-n-preserved : goal.loop-n-preserved
loop-n-preserved g c =
    let t = c.args.tiling.now in
    let count = t.cols * t.rows in
    let read = tile_at c.args.header.now t in
    let number = recorded g.T.Pixel.number in
    let inside : c.loop-n.n < count = subst (λ (k : ℕ). c.loop-n.n < k) c.tile_count-n-end.ensures c.loop-n-test.true in
    rw (c.in_ok-push.ensures.items, map_push number c.loop-n.tiles.items c.in_ok-one.one) (numbered_more read (map number c.loop-n.tiles.items) count c.loop-n.n c.loop-n.rest.now (number c.in_ok-one.one) c.in_ok-one.after.now (numbered read 0 count c.args.text.now) inside c.in_ok-one.ensures c.loop-n.invariant)

pub returns : goal.returns
unfolding tiles
returns g c =
    let t = c.args.tiling.now in
    let count = t.cols * t.rows in
    let read = tile_at c.args.header.now t in
    let done : count ≤ c.loop-n.n = subst (λ (k : ℕ). k ≤ c.loop-n.n) c.tile_count-n-end.ensures c.loop-n-test.false in
    numbered_done read (map (recorded g.T.Pixel.number) c.loop-n.tiles.items) count c.loop-n.n c.loop-n.rest.now (numbered read 0 count c.args.text.now) done c.loop-n.invariant
