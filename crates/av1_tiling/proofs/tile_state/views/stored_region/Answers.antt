use Rattle.std.proofs.Common.{ap, sym, map, ◌∙◌}
use Rattle.std.proofs.lemmas.List.{drop-map}
use Rattle.av1_plane.specs.Place.{rect_start}
use Rattle.av1_tiling.proofs.tile_state.views.stored_region.Goals as goal

pub returns-then-stores_rect : goal.returns-then-stores_rect
returns-then-stores_rect g c =
    let seen = c.new.ensures in
    let number = g.T.Pixel.number in
    let plane = c.args.plane.now in
    record {
      stored = λ stores. record {
        samples = λ wide high. ap (map number) (seen.samples wide high) ∙ sym (drop-map number (rect_start plane.cfg c.args.rect) plane.samples.items);
        step = seen.step;
        cfg = seen.cfg;
        area = seen.area;
        no_width = seen.no_width;
        no_height = seen.no_height;
      };
      elsewhere = λ no. absurd (no (λ wide high. c.stores_rect.ensures.inside c.if-stores_rect.true));
      cfg = seen.cfg;
    }
