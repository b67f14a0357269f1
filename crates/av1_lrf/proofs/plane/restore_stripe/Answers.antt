use Rattle.std.proofs.Common.{◌≡◌, ◌+◌, ◌*◌, ◌<◌, ◌≤◌, ℕ, arith, refl, ap, subst, sym, ◌∙◌, inl}
use Rattle.av1_plane.specs.declared.plane.PlaneConfig.{PlaneConfig}
use Rattle.av1_plane.specs.Place.{origin_place}
use Rattle.av1_plane.specs.Planes.{plane_numbers}
use Rattle.av1_block.specs.declared.restoration_unit.RestorationUnit.{RestorationUnit}
use Rattle.av1_tiling.specs.Restoration.{units_of, IsUnit}
use Rattle.av1_lrf.specs.Rows.{sample, scene_in}
use Rattle.av1_lrf.specs.Restore.{restored_by}
use Rattle.av1_lrf.specs.Units.{edge}
use Rattle.av1_lrf.proofs.AreaFacts.{area_is, area_same, area_columns, area_empty, place_apart}
use Rattle.av1_lrf.proofs.UnitFacts.{edge_first, edge_last, edge_less, edge_most, edge_wide, unit_between, unit_is}
use Rattle.av1_lrf.proofs.plane.restore_stripe.Goals as goal

pub loop-u-init : goal.loop-u-init
loop-u-init g c = record {
  cfg = refl;
  value = area_is _ _ 0 0 _ _ _ _ _ _ _ _ _ refl (edge_first _ _ _ (omega (arith, c.requires.units.units.some_cols, c.requires.units.units.cols))) refl refl (area_empty _ _ _ _ _ _ _);
}

pub restore_part-requires-clause-unit : goal.restore_part-requires-clause-unit
restore_part-requires-clause-unit g c =
    subst (λ (unit : RestorationUnit). IsUnit unit) (sym c.restoration_unit_by_stripe-unit.ensures) (unit_is _ _ _ c.args.k c.loop-u.u c.requires.units)

pub restore_part-requires-clause-left : goal.restore_part-requires-clause-left
restore_part-requires-clause-left g c = rw (c.edge_of-left.ensures, c.edge_of-right.ensures) (edge_less _ _ _ _ c.requires.units.units.some_size (omega arith) c.requires.units.fits)

pub restore_part-requires-clause-right : goal.restore_part-requires-clause-right
restore_part-requires-clause-right g c = rw c.edge_of-right.ensures (edge_most _ _ _ _ (omega arith) c.requires.units.fits)

pub restore_part-requires-clause-pitch : goal.restore_part-requires-clause-pitch
restore_part-requires-clause-pitch g c = rw (c.edge_of-left.ensures, c.edge_of-right.ensures) (edge_wide _ _ _ _ _ (omega arith) c.requires.units.fits c.requires.units.room c.requires.units.last)

pub restore_part-requires-clause-same : goal.restore_part-requires-clause-same
restore_part-requires-clause-same g c = λ x y lx hx ly hy.
    let wide : c.args.crop_w ≤ c.args.out.now.cfg.stride = rw c.requires.shape (omega (arith, c.requires.enhanced.wide, c.args.cdeffed.now.wide)) in
    let most : edge c.args.units.now.cfg.cols c.args.units.now.cfg.unit_size c.args.crop_w (c.loop-u.u + 1) ≤ c.args.crop_w = edge_most _ _ _ _ (omega arith) c.requires.units.fits in
    let left = c.edge_of-left.ensures in
    let right = c.edge_of-right.ensures in
    let at : origin_place c.loop-u.out.cfg + y * c.loop-u.out.cfg.stride + x ≡ origin_place c.args.out.now.cfg + y * c.args.out.now.cfg.stride + x = ap (λ (k : PlaneConfig). origin_place k + y * k.stride + x) c.loop-u.invariant.cfg in
    ap (λ (i : ℕ). sample (plane_numbers g.T.Pixel.number c.loop-u.out) i) at
    ∙ c.loop-u.invariant.value.off (origin_place c.args.out.now.cfg + y * c.args.out.now.cfg.stride + x) (λ x' y' lx' hx' ly' hy'. place_apart (origin_place c.args.out.now.cfg) c.args.out.now.cfg.stride x y x' y' (omega arith) (omega arith) (inl (omega arith)))
    ∙ c.requires.same x y (omega arith) ly hy

pub loop-u-preserved : goal.loop-u-preserved
loop-u-preserved g c =
    let wide : c.args.crop_w ≤ c.args.out.now.cfg.stride = rw c.requires.shape (omega (arith, c.requires.enhanced.wide, c.args.cdeffed.now.wide)) in
    let most : edge c.args.units.now.cfg.cols c.args.units.now.cfg.unit_size c.args.crop_w (c.loop-u.u + 1) ≤ c.args.crop_w = edge_most _ _ _ _ (omega arith) c.requires.units.fits in
    let less : edge c.args.units.now.cfg.cols c.args.units.now.cfg.unit_size c.args.crop_w c.loop-u.u < edge c.args.units.now.cfg.cols c.args.units.now.cfg.unit_size c.args.crop_w (c.loop-u.u + 1) = edge_less _ _ _ _ c.requires.units.units.some_size (omega arith) c.requires.units.fits in
    let s = scene_in g.T.Pixel.number c.args.crop_w c.args.crop_h c.args.start c.args.stop c.args.cdeffed.now c.args.deblocked.now in
    let part = rw c.loop-u.invariant.cfg at c.restore_part.ensures.value in
    record {
      cfg = c.restore_part.ensures.cfg ∙ c.loop-u.invariant.cfg;
      value = area_columns _ _ _ (edge c.args.units.now.cfg.cols c.args.units.now.cfg.unit_size c.args.crop_w c.loop-u.u) _ _ _ _ _ _ _ (omega arith) (omega arith) (omega arith) c.loop-u.invariant.value
          (area_same _ _ _ _ _ _ _ _ _ _
          (λ x y lx hx ly hy. ap (λ (unit : RestorationUnit). restored_by unit.filter c.args.cdef c.args.bd s x y) (c.restoration_unit_by_stripe-unit.ensures ∙ sym (unit_between (units_of c.args.units.now) c.args.k c.args.crop_w c.loop-u.u x c.requires.units.units.some_size c.requires.units.units.cols (omega arith) lx hx)))
          (area_is _ _ _ _ _ _ _ _ _ _ _ _ _ c.edge_of-left.ensures c.edge_of-right.ensures refl refl part));
    }

pub returns-clause-value : goal.returns-clause-value
returns-clause-value g c = area_is _ _ _ _ _ _ _ _ _ _ _ _ _ refl (edge_last _ _ _ _ (omega arith)) refl refl c.loop-u.invariant.value
