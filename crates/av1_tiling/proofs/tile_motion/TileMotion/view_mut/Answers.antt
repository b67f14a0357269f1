use Rattle.std.proofs.Common.{◌<◌, length, refl, ap, ◌∙◌, subst, arith}
use Rattle.av1_block.specs.declared.me_stats.MEStats.{MEStats}
use Rattle.av1_block.specs.Windows.{cut_window}
use Rattle.av1_tiling.specs.Views.{Part, Motion, part_table}
use Rattle.av1_tiling.specs.TileViews.{LendsTablePart, motion_part_at, with_motion_table}
use Rattle.av1_tiling.proofs.TileMotions.{cut_is_part, part_replaced}
use Rattle.av1_tiling.proofs.tile_motion.TileMotion.view_mut.Goals as goal

pub returns : goal.returns
returns c =
    let i = c.args.i in
    let own = c.self.inside in
    let cut = c.index_mut.result.now in
    let lent = c.from_cut.ensures in
    let inside : i < length own.cuts.items = omega (arith, own.cuts.ok.0, own.eight, c.requires) in
    let part = cut_is_part own.cuts.items i cut inside c.index_mut.ensures.value in (
      (
        refl,
        λ w. (λ j. record { parts = part_replaced own.cuts.items i cut inside c.index_mut.ensures.value w j; mi_cols = own.mi_cols; mi_rows = own.mi_rows })
            ∙ ap (λ (m : Motion). with_motion_table m i w) c.self.view_is,
      ),
      record {
        lends = tt;
        view = subst (λ (m : Motion). LendsTablePart (motion_part_at m.parts i) m.mi_cols m.mi_rows c.from_cut.result) c.self.view_is (record {
          table = lent.table ∙ ap (λ (p : Part MEStats). part_table p) part;
          window = lent.window ∙ ap (λ (p : Part MEStats). cut_window p.rect own.mi_cols own.mi_rows) part;
          placed = lent.placed;
        });
      },
    )
