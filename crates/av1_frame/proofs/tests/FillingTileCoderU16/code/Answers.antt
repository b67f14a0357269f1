use Rattle.std.proofs.Common.{ℤ, pos, length, replicate, refl, ap, ◌∙◌, sym, subst}
use Rattle.std.proofs.lemmas.List.{length-replicate}
use Rattle.av1_block.specs.declared.block.Block.{Block}
use Rattle.av1_block.specs.declared.restoration_unit.RestorationUnit.{RestorationUnit}
use Rattle.av1_tiling.specs.Views.{View, Part, SameRect, SameShape, part_with_entries, with_samples, with_units, with_blocks}
use Rattle.av1_tiling.proofs.PutBack.{refilled_whole}
use Rattle.av1_frame.proofs.Views.{same_rects}
use Rattle.av1_frame.proofs.tests.FillingTileCoderU16.code.Goals as goal

-- a part has the rectangle of itself
same_rect : {E : Type 0} (part : Part E) → SameRect part part
same_rect part = record { rect = refl; table_cols = refl; length = refl }

-- a part that is filled with one entry keeps its rectangle
filled : {E : Type 0} (part : Part E) (entry : E) → SameRect part (part_with_entries part (replicate (length part.entries) entry))
filled part entry =
    let count = length part.entries in
    let long = length-replicate count entry in
    record { rect = refl; table_cols = refl; length = ap length (refilled_whole count part.entries (replicate count entry) refl long) ∙ long }

-- a view whose luma samples, luma units and blocks are filled keeps its shape
filled_shape : (v : View) (sample : ℤ) (unit : RestorationUnit) (block : Block)
    → SameShape v (with_blocks (record v {
      ts = with_units (with_samples v.ts 0 (replicate (length v.ts.rec.y.entries) sample)) 0 (replicate (length v.ts.units.y.entries) unit);
    }) (replicate (length v.blocks.entries) block))
filled_shape v sample unit block = record {
  y = filled v.ts.rec.y sample;
  u = same_rect v.ts.rec.u;
  v = same_rect v.ts.rec.v;
  y_units = filled v.ts.units.y unit;
  u_units = same_rect v.ts.units.u;
  v_units = same_rect v.ts.units.v;
  motion = same_rects v.ts.me_stats;
  blocks = filled v.blocks block;
  mi_cols = refl;
  mi_rows = refl;
  frame_cols = refl;
  frame_rows = refl;
}

pub returns-clause-shape : goal.returns-clause-shape
returns-clause-shape c =
    subst (λ (after : View). SameShape c.args.ctx.now after) (sym c.fill.ensures)
    (filled_shape c.args.ctx.now (pos c.args.self.now.sample) c.args.self.now.unit c.args.self.now.block)
