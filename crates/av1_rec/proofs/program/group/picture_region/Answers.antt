use Rattle.std.proofs.Common.{◌≡◌, ◌≤◌, map, drop, ap, sym, subst, ◌∙◌}
use Rattle.av1_plane.specs.declared.region.Rect.{Rect}
use Rattle.av1_plane.specs.Layout.{rows}
use Rattle.av1_plane.specs.Place.{origin_place}
use Rattle.av1_plane.specs.Reading.{samples_seen}
use Rattle.av1_rec.proofs.RegionRows.{map_drop, at_origin}
use Rattle.av1_rec.proofs.program.group.picture_region.Goals as goal

pub returns-clause-rows : goal.returns-clause-rows
returns-clause-rows g c =
    let number = g.T.Pixel.number in
    let cfg = c.args.plane.now.cfg in
    let items = c.args.plane.now.samples.items in
    let seen = c.new.ensures.samples c.requires.some.0 c.requires.some.1 in
    let area = c.new.ensures.area c.requires.some.0 c.requires.some.1 in
    let shown : map number (samples_seen c.new.result) ≡ drop (origin_place cfg) (map number items) =
    ap (map number) seen ∙ map_drop number _ items ∙ ap (λ n. drop n (map number items)) (at_origin cfg c.args.width c.args.height) in
    λ i. rows (c.new.ensures.step i) (area i).width (area i).height (shown i)

pub returns-clause-small : goal.returns-clause-small
returns-clause-small g c =
    let area = c.new.ensures.area c.requires.some.0 c.requires.some.1 in
    record {
      columns = subst (λ (r : Rect). r.width ≤ 65536) (sym area) c.requires.narrow;
      rows = subst (λ (r : Rect). r.height ≤ 65536) (sym area) c.requires.low;
    }
