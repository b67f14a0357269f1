use Rattle.std.proofs.Common.{◌≡◌, refl, arith}
use Rattle.av1_tiling.proofs.Refills.{map-with_items}
use Rattle.av1_tiling.proofs.tile_state.TileStateMut.samples_mut.Goals as goal

pub returns-in-0 : goal.returns-in-0
returns-in-0 g c =
    let held = c.self.inside.parts.value.rec.y.plane.samples in
    let parts = c.deref_mut.ensures.value in (
      (refl, λ w. rw (c.in-0.is, parts, ← c.self.view_is) (rw (map-with_items g.T.Pixel.number held w) refl)),
      record {
        writes_back = tt;
        value = rw (c.in-0.is, c.samples_mut.ensures.samples, parts, ← c.self.view_is) refl;
      },
    )

pub returns-in-1 : goal.returns-in-1
returns-in-1 g c =
    let held = c.self.inside.parts.value.rec.u.plane.samples in
    let parts = c.deref_mut-in-1.ensures.value in (
      (refl, λ w. rw (c.in-1.is, parts, ← c.self.view_is) (rw (map-with_items g.T.Pixel.number held w) refl)),
      record {
        writes_back = tt;
        value = rw (c.in-1.is, c.samples_mut-in-1.ensures.samples, parts, ← c.self.view_is) refl;
      },
    )

pub returns-in_default : goal.returns-in_default
returns-in_default g c =
    let last : c.args.pli ≡ 2 = omega arith in
    let held = c.self.inside.parts.value.rec.v.plane.samples in
    let parts = c.deref_mut-in_default.ensures.value in (
      (refl, λ w. rw (last, parts, ← c.self.view_is) (rw (map-with_items g.T.Pixel.number held w) refl)),
      record {
        writes_back = tt;
        value = rw (last, c.samples_mut-in_default.ensures.samples, parts, ← c.self.view_is) refl;
      },
    )
