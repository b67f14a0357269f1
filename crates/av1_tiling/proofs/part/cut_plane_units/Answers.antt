use Rattle.std.proofs.Common.{ℕ, length, sym, ap, subst}
use Rattle.av1_block.specs.Cut.{LiesInTable}
use Rattle.av1_plane.specs.declared.tile_rect.TileRect.{TileRect}
use Rattle.av1_tiling.specs.declared.restoration_plane.RestorationPlane.{RestorationPlane}
use Rattle.av1_tiling.proofs.UnitPlaces.{units_lie}
use Rattle.av1_tiling.proofs.part.cut_plane_units.Goals as goal

pub take-requires : goal.take-requires
take-requires c =
    let u = c.args.plane.now.units in
    let cfg = c.args.plane.now.cfg in
    let lies = units_lie u.cols u.rows (length c.entries.result.now) (c.args.sbo.0.x, c.args.sbo.0.y) (c.args.sb_width, c.args.sb_height) (cfg.sb_h_shift, cfg.sb_v_shift) c.entries.ensures.whole in
    let cols = ap (λ (q : RestorationPlane). q.units.cols) (sym c.plane.view_is) in
    record {
      inside = subst (λ (n : ℕ). LiesInTable (length c.entries.result.now) n c.units_rect-rect.result) cols
          (subst (λ (r : TileRect). LiesInTable (length c.entries.result.now) u.cols r) (sym c.units_rect-rect.ensures) lies);
    }
