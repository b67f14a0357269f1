use Rattle.std.proofs.Common.{◌<◌, length, refl, ap, ◌∙◌, arith}
use Rattle.av1_block.specs.declared.me_stats.MEStats.{MEStats}
use Rattle.av1_tiling.specs.Views.{Part, Motion}
use Rattle.av1_tiling.specs.TileViews.{motion_part_at, with_motion_records}
use Rattle.av1_tiling.proofs.TileMotions.{cut_is_part, records_replaced}
use Rattle.av1_tiling.proofs.tile_motion.TileMotion.records_mut.Goals as goal

pub returns : goal.returns
returns c =
    let i = c.args.i in
    let own = c.self.inside in
    let cut = c.index_mut.result.now in
    let inside : i < length own.cuts.items = omega (arith, own.cuts.ok.0, own.eight, c.requires) in
    let part = cut_is_part own.cuts.items i cut inside c.index_mut.ensures.value in (
      (
        refl,
        λ w. (λ j. record { parts = records_replaced own.cuts.items i cut inside c.index_mut.ensures.value w j; mi_cols = own.mi_cols; mi_rows = own.mi_rows })
            ∙ ap (λ (m : Motion). with_motion_records m i w) c.self.view_is,
      ),
      record {
        lends = tt;
        value = c.entries_mut.ensures.entries ∙ ap (λ (p : Part MEStats). p.entries) part ∙ ap (λ (m : Motion). (motion_part_at m.parts i).entries) c.self.view_is;
      },
    )
