use Rattle.std.proofs.Common.{◌≡◌, ◌≢◌, ◌+◌, ◌*◌, ◌≤◌, ℕ, ℤ, List, refl, ap, ◌∙◌, arith, inr}
use Rattle.av1_plane.specs.declared.plane.PlaneConfig.{PlaneConfig}
use Rattle.av1_plane.specs.Place.{origin_place}
use Rattle.av1_plane.specs.Planes.{plane_numbers}
use Rattle.av1_lrf.specs.Rows.{sample, picture_of}
use Rattle.av1_tiling.specs.Restoration.{units_of}
use Rattle.av1_lrf.specs.Units.{row_edge}
use Rattle.av1_lrf.proofs.AreaFacts.{area_is, area_same, area_rows, area_none, place_apart}
use Rattle.av1_lrf.proofs.SgrFacts.{stripe_is}
use Rattle.av1_lrf.proofs.StripesFacts.{restored_at, stripe_few, stripe_inside, stripe_last}
use Rattle.av1_lrf.proofs.restore.restore_plane.Goals as goal

pub loop-k-init : goal.loop-k-init
loop-k-init g c = record {
  cfg = refl;
  value = area_is _ _ _ _ 0 0 _ _ _ _ _ _ _ refl refl refl (omega arith) (area_none _ _ _ _ _ _ _);
}

pub restore_nth-requires-clause-few : goal.restore_nth-requires-clause-few
restore_nth-requires-clause-few g c =
    let inside = stripe_inside c.height_of-height.result c.offset_of-offset.result c.args.crop_h c.loop-k.k (omega (arith, c.height_of-height.ensures.least)) c.requires.enhanced.some_height (omega (arith, c.offset_of-offset.ensures.least)) (omega arith) in
    stripe_few c.height_of-height.result (c.args.crop_h + c.offset_of-offset.result) c.loop-k.k (omega (arith, c.height_of-height.ensures.least)) (omega (arith, c.requires.enhanced.small_height, c.offset_of-offset.ensures.most)) inside

pub restore_nth-requires-clause-shape : goal.restore_nth-requires-clause-shape
restore_nth-requires-clause-shape g c = c.loop-k.invariant.cfg ∙ c.requires.shape

pub restore_nth-requires-clause-same : goal.restore_nth-requires-clause-same
restore_nth-requires-clause-same g c = λ x y hx ly hy.
    let wide : c.args.crop_w ≤ c.args.out.now.cfg.stride = rw c.requires.shape (omega (arith, c.requires.enhanced.wide, c.args.cdeffed.now.wide)) in
    let at : origin_place c.loop-k.out.cfg + y * c.loop-k.out.cfg.stride + x ≡ origin_place c.args.out.now.cfg + y * c.args.out.now.cfg.stride + x = ap (λ (k : PlaneConfig). origin_place k + y * k.stride + x) c.loop-k.invariant.cfg in
    let from : origin_place c.args.out.now.cfg + y * c.args.out.now.cfg.stride + x ≡ origin_place c.args.cdeffed.now.cfg + y * c.args.cdeffed.now.cfg.stride + x = ap (λ (k : PlaneConfig). origin_place k + y * k.stride + x) c.requires.shape in
    ap (λ (i : ℕ). sample (plane_numbers g.T.Pixel.number c.loop-k.out) i) at
    ∙ c.loop-k.invariant.value.off (origin_place c.args.out.now.cfg + y * c.args.out.now.cfg.stride + x) (λ x' y' lx' hx' ly' hy'.
    let apart : y ≢ y' = omega arith in
    place_apart (origin_place c.args.out.now.cfg) c.args.out.now.cfg.stride x y x' y' (omega arith) (omega arith) (inr apart))
    ∙ ap (λ (ns : List ℤ). sample ns (origin_place c.args.out.now.cfg + y * c.args.out.now.cfg.stride + x)) c.requires.same
    ∙ ap (λ (i : ℕ). sample (plane_numbers g.T.Pixel.number c.args.cdeffed.now) i) from

pub loop-k-preserved : goal.loop-k-preserved
loop-k-preserved g c =
    let wide : c.args.crop_w ≤ c.args.out.now.cfg.stride = rw c.requires.shape (omega (arith, c.requires.enhanced.wide, c.args.cdeffed.now.wide)) in
    let height : ℕ = c.height_of-height.result in
    let more : (c.loop-k.k + 1) * c.height_of-height.result ≡ c.loop-k.k * c.height_of-height.result + c.height_of-height.result = grind arith in
    let part = rw c.loop-k.invariant.cfg at c.restore_nth.ensures.value in
    record {
      cfg = c.restore_nth.ensures.cfg ∙ c.loop-k.invariant.cfg;
      value = area_rows _ _ _ _ _ (row_edge c.height_of-height.result c.offset_of-offset.result c.args.crop_h c.loop-k.k) _ _ _ _ _ (omega arith) (omega arith) wide c.loop-k.invariant.value
          (area_same _ _ _ _ _ _ _ _ _ _
          (λ x y lx hx ly hy. restored_at (record { units = units_of c.args.units.now; cdef = c.args.cdef; bit_depth = c.args.bd; ydec = c.args.ydec }) (picture_of g.T.Pixel.number c.args.crop_w c.args.crop_h c.args.deblocked.now) (picture_of g.T.Pixel.number c.args.crop_w c.args.crop_h c.args.cdeffed.now) c.height_of-height.result c.offset_of-offset.result c.loop-k.k x y c.height_of-height.ensures.value c.offset_of-offset.ensures.value (omega (arith, c.height_of-height.ensures.least)) (omega arith) (omega arith))
          part);
    }

pub returns-clause-value : goal.returns-clause-value
returns-clause-value g c =
    let last : row_edge c.height_of-height.result c.offset_of-offset.result c.args.crop_h c.loop-k.k ≡ c.args.crop_h = stripe_last _ _ _ _ (omega (arith, c.height_of-height.ensures.least)) c.requires.enhanced.some_height (omega arith) in
    stripe_is _ _ _ _ _ _ _ _ _ _ _ _ _ _ (ap (λ (k : PlaneConfig). origin_place k) c.requires.shape) (ap (λ (k : PlaneConfig). k.stride) c.requires.shape) refl last c.requires.same refl
    (λ x y. refl) c.loop-k.invariant.value
