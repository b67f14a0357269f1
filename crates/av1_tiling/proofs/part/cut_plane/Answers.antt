use Rattle.std.proofs.Common.{◌≡◌, rules, subst}
use Rattle.av1_plane.specs.Regions.{ShowsRect}
use Rattle.av1_plane.specs.Tiles.{plane_rect}
use Rattle.av1_tiling.proofs.Parts.{part_copied}
use Rattle.av1_tiling.proofs.part.cut_plane.Goals as goal

pub returns : goal.returns
returns g c =
    let plane = c.args.plane.now in
    let rect : c.into.result ≡ plane_rect plane.cfg c.args.luma = search rules in
    part_copied plane c.args.luma c.new.result (subst (λ r. ShowsRect plane.cfg plane.samples.items r c.new.result) rect c.new.ensures) g.T.Pixel.number _ c.in_ok-copy.copy c.stored_rect-x.ensures c.in_ok-copy.ensures
