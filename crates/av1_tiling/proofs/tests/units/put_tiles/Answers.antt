use Rattle.std.proofs.Common.{◌≡◌, ℕ, ◌*◌, pos, All, length, map, sym, ap, subst, ◌∙◌, arith}
use Rattle.av1_block.specs.declared.block.Block.{Block}
use Rattle.av1_block.specs.Rows.{Rows}
use Rattle.av1_block.specs.Tables.{table_entries}
use Rattle.av1_tiling.specs.Frames.{State, views}
use Rattle.av1_tiling.specs.Views.{AreFull, view_frame}
use Rattle.av1_tiling.specs.Puts.{Tables, tables_of}
use Rattle.av1_tiling.specs.Coded.{ViewLies, state_tables}
use Rattle.av1_tiling.proofs.ViewPlaces.{views_lie, views_apart, coded_lie, coded_apart, full_frame}
use Rattle.av1_tiling.proofs.tests.units.put_tiles.Goals as goal

pub put_back-requires-clause-lies : goal.put_back-requires-clause-lies
put_back-requires-clause-lies c =
    let number = λ (x : ℕ). pos x in
    let s = c.args.fs in
    let blocks = c.args.blocks in
    let tiling = c.args.tiling.now in
    let made = c.requires.made in
    let first = views tiling s (table_entries blocks) in
    let items = c.args.tiles.now in
    let held = c.blocks-2.inside in
    let begun_rec = ap (λ (x : State). x.rec) c.fs.view_is in
    let from = ap (view_frame number) c.deref.ensures ∙ begun_rec in
    let same = c.in_ok-rec.ensures in
    let kept : view_frame number c.in_ok-rec.rec ≡ s.rec = (λ i. record {
      y = record { cfg = same.y.cfg i; samples = map number (same.y.samples i) };
      u = record { cfg = same.u.cfg i; samples = map number (same.u.samples i) };
      v = record { cfg = same.v.cfg i; samples = map number (same.v.samples i) };
    }) ∙ from in
    let moved = c.deref_mut.ensures.value ∙ ap (λ (x : State). x.frame_me_stats) c.fs.view_is in
    let units = ap (λ (x : State). x.restoration) c.fs.view_is in
    let begun : tables_of number c.in_ok-rec.rec c.deref_mut.result.now c.fs.inside.restoration blocks ≡ state_tables s blocks =
    λ i. record { rec = kept i; motion = moved i; units = units i; blocks = blocks } in
    let long = subst (λ (r : Rows Block). length r.entries ≡ r.cols * r.rows) c.blocks-2.view_is (omega (arith, held.entries.ok.0, held.whole)) in
    let full = subst AreFull from (full_frame number c.deref.result.now) in
    let lie = coded_lie first items c.requires.shapes (state_tables s blocks) (views_lie tiling s (table_entries blocks) blocks.cols blocks.rows made full long) in
    subst (λ (t : Tables). All (ViewLies t) items) (sym begun) lie

pub put_back-requires-clause-apart : goal.put_back-requires-clause-apart
put_back-requires-clause-apart c =
    let s = c.args.fs in
    let blocks = c.args.blocks in
    let tiling = c.args.tiling.now in
    let made = c.requires.made in
    let entries = table_entries blocks in
    coded_apart (views tiling s entries) c.args.tiles.now c.requires.shapes (views_apart tiling s entries blocks.cols blocks.rows made)
