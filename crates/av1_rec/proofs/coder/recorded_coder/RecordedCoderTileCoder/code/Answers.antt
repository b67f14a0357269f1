use Rattle.std.proofs.Common.{rules, length, ap, ◌∙◌}
use Rattle.av1_tiling.specs.Views.{TileState, View, view_cut}
use Rattle.av1_frame.proofs.Views.{same_rects}
use Rattle.av1_rec.specs.Lines.{said_planes}
use Rattle.av1_rec.specs.Recorded.{unit_lists}
use Rattle.av1_rec.proofs.WrittenShapes.{length-refilled, written_y, written_u, written_v}
use Rattle.av1_rec.proofs.coder.recorded_coder.RecordedCoderTileCoder.code.Goals as goal

pub returns-in-Ok-clause-shape : goal.returns-in-Ok-clause-shape
returns-in-Ok-clause-shape g c =
    let before = c.ctx.inside.ts in
    let planes = c.write_planes.new.ts in
    let rows = said_planes g.T.Pixel.number c.in-Some-Coded.rows in
    let units = unit_lists c.in-Some-Coded.units in
    let same = c.ctx.view_is in
    let last = c.write_units.ensures in
    let written = c.write_planes.ensures in
    let y = ap (λ (t : TileState). length t.rec.y.entries) last ∙ (written_y before planes rows written ∙ ap (λ (v : View). length v.ts.rec.y.entries) same) in
    let u = ap (λ (t : TileState). length t.rec.u.entries) last ∙ (written_u before planes rows written ∙ ap (λ (v : View). length v.ts.rec.u.entries) same) in
    let v = ap (λ (t : TileState). length t.rec.v.entries) last ∙ (written_v before planes rows written ∙ ap (λ (v : View). length v.ts.rec.v.entries) same) in
    let y_units = ap (λ (t : TileState). length t.units.y.entries) last ∙ (length-refilled planes.units.y.entries units.y ∙ (ap (λ (t : TileState). length t.units.y.entries) written ∙ ap (λ (v : View). length v.ts.units.y.entries) same)) in
    let u_units = ap (λ (t : TileState). length t.units.u.entries) last ∙ (length-refilled planes.units.u.entries units.u ∙ (ap (λ (t : TileState). length t.units.u.entries) written ∙ ap (λ (v : View). length v.ts.units.u.entries) same)) in
    let v_units = ap (λ (t : TileState). length t.units.v.entries) last ∙ (length-refilled planes.units.v.entries units.v ∙ (ap (λ (t : TileState). length t.units.v.entries) written ∙ ap (λ (v : View). length v.ts.units.v.entries) same)) in
    let blocks = length-refilled (view_cut c.ctx.inside.blocks).entries c.copy_from_slice.new.self ∙ ap (λ (v : View). length v.blocks.entries) same in
    record {
      y = record { rect = search rules; table_cols = search rules; length = y };
      u = record { rect = search rules; table_cols = search rules; length = u };
      v = record { rect = search rules; table_cols = search rules; length = v };
      motion = search (rules, same_rects);
      y_units = record { rect = search rules; table_cols = search rules; length = y_units };
      u_units = record { rect = search rules; table_cols = search rules; length = u_units };
      v_units = record { rect = search rules; table_cols = search rules; length = v_units };
      blocks = record { rect = search rules; table_cols = search rules; length = blocks };
      mi_cols = search rules;
      mi_rows = search rules;
      frame_cols = search rules;
      frame_rows = search rules;
    }
