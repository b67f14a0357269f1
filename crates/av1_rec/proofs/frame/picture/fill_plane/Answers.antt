use Rattle.std.proofs.Common.{◌≡◌, ◌*◌, ◌<◌, List, length, map, ap, subst, sym, ◌∙◌, arith, rules}
use Rattle.std.proofs.lemmas.List.{length-map, with_items_is}
use Rattle.av1_plane.specs.Layout.{visible, IsPadded}
use Rattle.av1_rec.specs.Picture.{picture_plane}
use Rattle.av1_rec.specs.Lines.{numbers_of}
use Rattle.av1_rec.proofs.Pictures.{all_fit, down_fits, in_place, spread}
use Rattle.av1_rec.proofs.frame.picture.fill_plane.Goals as goal

pub write_picture-requires-clause-across : goal.write_picture-requires-clause-across
write_picture-requires-clause-across g c =
    let cfg = c.args.plane.now.cfg in
    let some : 0 < length c.args.plane.now.samples.items = search rules in
    let can = c.requires.can_pad some in
    all_fit g.T.Pixel.number cfg.xorigin cfg.stride (visible c.args.w cfg.xdec) (visible c.args.h cfg.ydec) c.args.rows.now (let wide = c.args.plane.now.wide in omega (arith, wide, can.width)) (c.requires.sides some)

pub write_picture-requires-clause-down : goal.write_picture-requires-clause-down
write_picture-requires-clause-down g c =
    let cfg = c.args.plane.now.cfg in
    let some : 0 < length c.args.plane.now.samples.items = search rules in
    let can = c.requires.can_pad some in
    down_fits g.T.Pixel.number c.args.rows.now cfg.yorigin cfg.stride (visible c.args.w cfg.xdec) (visible c.args.h cfg.ydec) cfg.alloc_height (length c.as_mut_slice.result.now) (c.requires.sides some)
    (let high = c.args.plane.now.high in omega (arith, high, can.height)) (ap length c.as_mut_slice.ensures.value ∙ c.args.plane.now.stored)

pub returns : goal.returns
returns g c =
    let cfg = c.args.plane.now.cfg in
    let number = g.T.Pixel.number in
    let some : 0 < length c.args.plane.now.samples.items = search rules in
    let can = c.requires.can_pad some in
    let rs = numbers_of number c.args.rows.now in
    let before = map number c.write_picture.new.samples in
    let after = map number c.pad.new.self.samples.items in
    let count : length before ≡ cfg.stride * cfg.alloc_height =
    length-map c.write_picture.new.samples number ∙ (c.write_picture.auto.samples ∙ (ap length c.as_mut_slice.ensures.value ∙ c.args.plane.now.stored)) in
    let long : length c.write_picture.new.samples ≡ c.args.plane.now.samples.len =
    c.write_picture.auto.samples ∙ (ap length c.as_mut_slice.ensures.value ∙ sym c.args.plane.now.samples.ok.0) in
    let padded = subst (λ (xs : List _). IsPadded cfg (visible c.args.w cfg.xdec) (visible c.args.h cfg.ydec) (map number xs) after) (with_items_is c.args.plane.now.samples c.write_picture.new.samples long) c.pad.ensures.samples in
    let filled : after ≡ (picture_plane cfg c.args.w c.args.h rs).samples =
    spread cfg c.args.w c.args.h rs before after count can padded (in_place number c.args.rows.now cfg (visible c.args.w cfg.xdec) (visible c.args.h cfg.ydec) before (c.requires.sides some) c.write_picture.ensures) in
    λ i. record { cfg = c.pad.ensures.cfg i; samples = filled i }
