use Rattle.std.proofs.Common.{◌≡◌, rules, sym, ap, ◌∙◌, subst}
use Rattle.av1_tiling.specs.declared.unit_sizes.UnitSizes.{UnitSizes}
use Rattle.av1_tiling.specs.declared.restoration_plane.RestorationPlaneConfig.{RestorationPlaneConfig}
use Rattle.av1_tiling.specs.Restoration.{Units, HasLayout, units_in}
use Rattle.av1_tiling.specs.UnitSizes.{shifts, unit_layout, unit_layouts}
use Rattle.av1_tiling.proofs.made_for.are_units_for.Goals as goal

-- units with a layout have each that is equal to it
with_layout : (a b : RestorationPlaneConfig) (u : Units) → a ≡ b → HasLayout a u → HasLayout b u
with_layout a b u e h = subst (λ l. HasLayout l u) e h

pub returns : goal.returns
returns g c =
    let p = c.args.fi.now in
    let s = units_in c.args.state.now in
    let d : c.unwrap_or-xdec.result ≡ shifts p = search rules in
    let luma : c.unit_layout-luma.result ≡ (unit_layouts p).y =
    c.unit_layout-luma.ensures.layout ∙ ap (λ (sizes : UnitSizes). unit_layout p sizes.luma (0, 0)) c.unit_sizes-sizes.ensures.value in
    let chroma : c.unit_layout-chroma.result ≡ (unit_layouts p).u =
    c.unit_layout-chroma.ensures.layout ∙ (λ i. unit_layout p (c.unit_sizes-sizes.ensures.value i).chroma (d i)) in (
      λ e.
          let h = c.have_unit_layouts.ensures.0 e in
          record { y = with_layout _ _ s.y luma h.0; u = with_layout _ _ s.u chroma h.1; v = with_layout _ _ s.v chroma h.2 },
      λ made.
          c.have_unit_layouts.ensures.1 (with_layout _ _ s.y (sym luma) made.y, with_layout _ _ s.u (sym chroma) made.u, with_layout _ _ s.v (sym chroma) made.v),
    )
