use Rattle.std.proofs.Common.{rules, ◌≡◌, ◌≤◌, All, List, length, sym, subst, ap, ◌∙◌, arith}
use Rattle.av1_block.specs.declared.block.Block.{Block}
use Rattle.av1_block.specs.declared.me_stats.MEStats.{MEStats}
use Rattle.av1_block.specs.Rows.{Rows}
use Rattle.av1_block.specs.Rule.{IsBlock}
use Rattle.av1_tiling.specs.Views.{View, view_frame}
use Rattle.av1_tiling.specs.Frames.{State, IsInputFor, layouts}
use Rattle.av1_tiling.specs.Puts.{Tables, tables_of, coded_tables}
use Rattle.av1_tiling.specs.Coded.{ViewLies, AreViewsApart, state_tables}
use Rattle.av1_tiling.specs.Restoration.{units_in, AreFrameUnits}
use Rattle.av1_tiling.proofs.Placed.{coded_are}
use Rattle.av1_tiling.proofs.PutBack.{refilled_whole}
use Rattle.av1_frame.specs.Coding.{decimations_of}
use Rattle.av1_frame.specs.Reference.{levels_of, with_levels, deblocked, finished}
use Rattle.av1_frame.proofs.Enhancing.{copy_is}
use Rattle.av1_frame.proofs.Rebuilding.{coded_input, all_predicted, finished_layout}
use Rattle.av1_frame.proofs.Tiles.{sides_low}
use Rattle.av1_frame.proofs.rebuild.rebuild.Goals as goal

pub put_back-requires-clause-lies : goal.put_back-requires-clause-lies
put_back-requires-clause-lies g c =
    let number = g.T.Pixel.number in
    let s = c.args.fs.now in
    let b = c.args.blocks.now in
    let views = c.args.contexts.items in
    let lent : c.deref-3.result.now ≡ views = search rules in
    let rec = c.in_ok-rec.rec in
    let from : view_frame number c.deref.result.now ≡ s.rec = search rules in
    let kept : view_frame number rec ≡ s.rec = copy_is number c.deref.result.now rec c.in_ok-rec.ensures ∙ from in
    let moved : c.as_mut_slice.result.now ≡ s.frame_me_stats = search rules in
    let same : c.in_ok-coded.coded ≡ b = c.in_ok-coded.ensures in
    let old = tables_of number rec c.as_mut_slice.result.now c.in_ok-restoration.restoration c.in_ok-coded.coded in
    let units : units_in c.in_ok-restoration.restoration ≡ s.restoration = c.in_ok-restoration.ensures ∙ ap (λ (x : State). x.restoration) c.fs.view_is in
    let begun : old ≡ state_tables s b = λ i. record { rec = kept i; motion = moved i; units = units i; blocks = same i } in
    subst (λ (vs : List View). All (ViewLies old) vs) (sym lent) (subst (λ (t : Tables). All (ViewLies t) views) (sym begun) c.requires.lies)

pub choose_levels-levels-requires-clause-input : goal.choose_levels-levels-requires-clause-input
choose_levels-levels-requires-clause-input g c =
    let state = c.requires.made_for.state in
    let input : view_frame g.T.Pixel.number c.deref-4.result.now ≡ c.args.fs.now.input = search rules in
    subst (IsInputFor c.args.fi.now) (sym input) (record { layout = state.input; y_range = state.y_range; u_range = state.u_range; v_range = state.v_range })

pub choose_levels-levels-requires-clause-coded : goal.choose_levels-levels-requires-clause-coded
choose_levels-levels-requires-clause-coded g c =
    let number = g.T.Pixel.number in
    let s = c.args.fs.now in
    let b = c.args.blocks.now in
    let views = c.args.contexts.items in
    let lent : c.deref-3.result.now ≡ views = search rules in
    let rec = c.in_ok-rec.rec in
    let from : view_frame number c.deref.result.now ≡ s.rec = search rules in
    let kept : view_frame number rec ≡ s.rec = copy_is number c.deref.result.now rec c.in_ok-rec.ensures ∙ from in
    let moved : c.as_mut_slice.result.now ≡ s.frame_me_stats = search rules in
    let same : c.in_ok-coded.coded ≡ b = c.in_ok-coded.ensures in
    let old = tables_of number rec c.as_mut_slice.result.now c.in_ok-restoration.restoration c.in_ok-coded.coded in
    let units : units_in c.in_ok-restoration.restoration ≡ s.restoration = c.in_ok-restoration.ensures ∙ ap (λ (x : State). x.restoration) c.fs.view_is in
    let begun : old ≡ state_tables s b = λ i. record { rec = kept i; motion = moved i; units = units i; blocks = same i } in
    let put = tables_of number c.put_back.new.rec c.put_back.new.me c.put_back.new.units c.put_back.new.blocks in
    let lies = subst (λ (t : Tables). All (ViewLies t) views) (sym begun) c.requires.lies in
    let coded : put ≡ coded_tables (state_tables s b) views = coded_are c.deref-3.result.now old put (subst (λ (vs : List View). All (ViewLies old) vs) (sym lent) lies) (subst AreViewsApart (sym lent) c.requires.apart) c.put_back.ensures ∙ (ap (λ (vs : List View). coded_tables old vs) lent ∙ ap (λ (t : Tables). coded_tables t views) begun) in
    subst (IsInputFor c.args.fi.now) (sym (ap (λ (t : Tables). t.rec) coded)) (coded_input c.args.fi.now s b views c.requires.made_for.state c.requires.valid)

pub choose_levels-levels-requires-clause-blocks : goal.choose_levels-levels-requires-clause-blocks
choose_levels-levels-requires-clause-blocks g c =
    let b = c.args.blocks.now in
    let same : c.in_ok-coded.coded ≡ b = c.in_ok-coded.ensures in
    record {
      columns = c.put_back.ensures.blocks.cols ∙ (ap (λ (r : Rows Block). r.cols) same ∙ c.requires.made_for.blocks.columns);
      rows = c.put_back.ensures.blocks.rows ∙ (ap (λ (r : Rows Block). r.rows) same ∙ c.requires.made_for.blocks.rows);
    }

pub choose_levels-levels-requires-clause-references : goal.choose_levels-levels-requires-clause-references
choose_levels-levels-requires-clause-references g c =
    let number = g.T.Pixel.number in
    let s = c.args.fs.now in
    let b = c.args.blocks.now in
    let views = c.args.contexts.items in
    let lent : c.deref-3.result.now ≡ views = search rules in
    let rec = c.in_ok-rec.rec in
    let from : view_frame number c.deref.result.now ≡ s.rec = search rules in
    let kept : view_frame number rec ≡ s.rec = copy_is number c.deref.result.now rec c.in_ok-rec.ensures ∙ from in
    let moved : c.as_mut_slice.result.now ≡ s.frame_me_stats = search rules in
    let same : c.in_ok-coded.coded ≡ b = c.in_ok-coded.ensures in
    let old = tables_of number rec c.as_mut_slice.result.now c.in_ok-restoration.restoration c.in_ok-coded.coded in
    let units : units_in c.in_ok-restoration.restoration ≡ s.restoration = c.in_ok-restoration.ensures ∙ ap (λ (x : State). x.restoration) c.fs.view_is in
    let begun : old ≡ state_tables s b = λ i. record { rec = kept i; motion = moved i; units = units i; blocks = same i } in
    let put = tables_of number c.put_back.new.rec c.put_back.new.me c.put_back.new.units c.put_back.new.blocks in
    let lies = subst (λ (t : Tables). All (ViewLies t) views) (sym begun) c.requires.lies in
    let coded : put ≡ coded_tables (state_tables s b) views = coded_are c.deref-3.result.now old put (subst (λ (vs : List View). All (ViewLies old) vs) (sym lent) lies) (subst AreViewsApart (sym lent) c.requires.apart) c.put_back.ensures ∙ (ap (λ (vs : List View). coded_tables old vs) lent ∙ ap (λ (t : Tables). coded_tables t views) begun) in
    let d = decimations_of c.args.fi.now.sequence.chroma_sampling in
    let each = subst (All (IsBlock d.0 d.1)) (sym (ap (λ (t : Tables). t.blocks.entries) coded)) c.requires.valid.blocks in
    all_predicted d.0 d.1 put.blocks.entries each

pub filter_frame-requires-clause-coded : goal.filter_frame-requires-clause-coded
filter_frame-requires-clause-coded g c κs within =
    let number = g.T.Pixel.number in
    let s = c.args.fs.now in
    let b = c.args.blocks.now in
    let views = c.args.contexts.items in
    let lent : c.deref-3.result.now ≡ views = search rules in
    let rec = c.in_ok-rec.rec in
    let from : view_frame number c.deref.result.now ≡ s.rec = search rules in
    let kept : view_frame number rec ≡ s.rec = copy_is number c.deref.result.now rec c.in_ok-rec.ensures ∙ from in
    let moved : c.as_mut_slice.result.now ≡ s.frame_me_stats = search rules in
    let same : c.in_ok-coded.coded ≡ b = c.in_ok-coded.ensures in
    let old = tables_of number rec c.as_mut_slice.result.now c.in_ok-restoration.restoration c.in_ok-coded.coded in
    let units : units_in c.in_ok-restoration.restoration ≡ s.restoration = c.in_ok-restoration.ensures ∙ ap (λ (x : State). x.restoration) c.fs.view_is in
    let begun : old ≡ state_tables s b = λ i. record { rec = kept i; motion = moved i; units = units i; blocks = same i } in
    let put = tables_of number c.put_back.new.rec c.put_back.new.me c.put_back.new.units c.put_back.new.blocks in
    let lies = subst (λ (t : Tables). All (ViewLies t) views) (sym begun) c.requires.lies in
    let coded : put ≡ coded_tables (state_tables s b) views = coded_are c.deref-3.result.now old put (subst (λ (vs : List View). All (ViewLies old) vs) (sym lent) lies) (subst AreViewsApart (sym lent) c.requires.apart) c.put_back.ensures ∙ (ap (λ (vs : List View). coded_tables old vs) lent ∙ ap (λ (t : Tables). coded_tables t views) begun) in
    subst (IsInputFor c.args.fi.now) (sym (ap (λ (t : Tables). t.rec) coded)) (coded_input c.args.fi.now s b views c.requires.made_for.state c.requires.valid)

pub filter_frame-requires-clause-blocks_for : goal.filter_frame-requires-clause-blocks_for
filter_frame-requires-clause-blocks_for g c κs within =
    let b = c.args.blocks.now in
    let same : c.in_ok-coded.coded ≡ b = c.in_ok-coded.ensures in
    record {
      columns = c.put_back.ensures.blocks.cols ∙ (ap (λ (r : Rows Block). r.cols) same ∙ c.requires.made_for.blocks.columns);
      rows = c.put_back.ensures.blocks.rows ∙ (ap (λ (r : Rows Block). r.rows) same ∙ c.requires.made_for.blocks.rows);
    }

pub filter_frame-requires-clause-blocks : goal.filter_frame-requires-clause-blocks
filter_frame-requires-clause-blocks g c κs within =
    let number = g.T.Pixel.number in
    let s = c.args.fs.now in
    let b = c.args.blocks.now in
    let views = c.args.contexts.items in
    let lent : c.deref-3.result.now ≡ views = search rules in
    let rec = c.in_ok-rec.rec in
    let from : view_frame number c.deref.result.now ≡ s.rec = search rules in
    let kept : view_frame number rec ≡ s.rec = copy_is number c.deref.result.now rec c.in_ok-rec.ensures ∙ from in
    let moved : c.as_mut_slice.result.now ≡ s.frame_me_stats = search rules in
    let same : c.in_ok-coded.coded ≡ b = c.in_ok-coded.ensures in
    let old = tables_of number rec c.as_mut_slice.result.now c.in_ok-restoration.restoration c.in_ok-coded.coded in
    let units : units_in c.in_ok-restoration.restoration ≡ s.restoration = c.in_ok-restoration.ensures ∙ ap (λ (x : State). x.restoration) c.fs.view_is in
    let begun : old ≡ state_tables s b = λ i. record { rec = kept i; motion = moved i; units = units i; blocks = same i } in
    let put = tables_of number c.put_back.new.rec c.put_back.new.me c.put_back.new.units c.put_back.new.blocks in
    let lies = subst (λ (t : Tables). All (ViewLies t) views) (sym begun) c.requires.lies in
    let coded : put ≡ coded_tables (state_tables s b) views = coded_are c.deref-3.result.now old put (subst (λ (vs : List View). All (ViewLies old) vs) (sym lent) lies) (subst AreViewsApart (sym lent) c.requires.apart) c.put_back.ensures ∙ (ap (λ (vs : List View). coded_tables old vs) lent ∙ ap (λ (t : Tables). coded_tables t views) begun) in
    let d = decimations_of c.args.fi.now.sequence.chroma_sampling in
    let each = subst (All (IsBlock d.0 d.1)) (sym (ap (λ (t : Tables). t.blocks.entries) coded)) c.requires.valid.blocks in
    each

pub filter_frame-requires-clause-units : goal.filter_frame-requires-clause-units
filter_frame-requires-clause-units g c κs within =
    let number = g.T.Pixel.number in
    let s = c.args.fs.now in
    let b = c.args.blocks.now in
    let views = c.args.contexts.items in
    let lent : c.deref-3.result.now ≡ views = search rules in
    let rec = c.in_ok-rec.rec in
    let from : view_frame number c.deref.result.now ≡ s.rec = search rules in
    let kept : view_frame number rec ≡ s.rec = copy_is number c.deref.result.now rec c.in_ok-rec.ensures ∙ from in
    let moved : c.as_mut_slice.result.now ≡ s.frame_me_stats = search rules in
    let same : c.in_ok-coded.coded ≡ b = c.in_ok-coded.ensures in
    let old = tables_of number rec c.as_mut_slice.result.now c.in_ok-restoration.restoration c.in_ok-coded.coded in
    let units : units_in c.in_ok-restoration.restoration ≡ s.restoration = c.in_ok-restoration.ensures ∙ ap (λ (x : State). x.restoration) c.fs.view_is in
    let begun : old ≡ state_tables s b = λ i. record { rec = kept i; motion = moved i; units = units i; blocks = same i } in
    let put = tables_of number c.put_back.new.rec c.put_back.new.me c.put_back.new.units c.put_back.new.blocks in
    let lies = subst (λ (t : Tables). All (ViewLies t) views) (sym begun) c.requires.lies in
    let coded : put ≡ coded_tables (state_tables s b) views = coded_are c.deref-3.result.now old put (subst (λ (vs : List View). All (ViewLies old) vs) (sym lent) lies) (subst AreViewsApart (sym lent) c.requires.apart) c.put_back.ensures ∙ (ap (λ (vs : List View). coded_tables old vs) lent ∙ ap (λ (t : Tables). coded_tables t views) begun) in
    subst AreFrameUnits (sym (ap (λ (t : Tables). t.units) coded)) c.requires.valid.units

pub filter_frame-requires-clause-levels : goal.filter_frame-requires-clause-levels
filter_frame-requires-clause-levels g c κs within = record {
  levels = c.choose_levels-levels.ensures.high;
  shift = subst (λ (t : State). t.deblock.block_delta_shift ≤ 3) (sym c.fs.view_is) c.requires.made_for.state.shift;
}

pub returns : goal.returns
returns g c =
    let p = c.args.fi.now in
    let number = g.T.Pixel.number in
    let s = c.args.fs.now in
    let b = c.args.blocks.now in
    let views = c.args.contexts.items in
    let lent : c.deref-3.result.now ≡ views = search rules in
    let rec = c.in_ok-rec.rec in
    let from : view_frame number c.deref.result.now ≡ s.rec = search rules in
    let kept : view_frame number rec ≡ s.rec = copy_is number c.deref.result.now rec c.in_ok-rec.ensures ∙ from in
    let moved : c.as_mut_slice.result.now ≡ s.frame_me_stats = search rules in
    let same : c.in_ok-coded.coded ≡ b = c.in_ok-coded.ensures in
    let old = tables_of number rec c.as_mut_slice.result.now c.in_ok-restoration.restoration c.in_ok-coded.coded in
    let units : units_in c.in_ok-restoration.restoration ≡ s.restoration = c.in_ok-restoration.ensures ∙ ap (λ (x : State). x.restoration) c.fs.view_is in
    let begun : old ≡ state_tables s b = λ i. record { rec = kept i; motion = moved i; units = units i; blocks = same i } in
    let put = tables_of number c.put_back.new.rec c.put_back.new.me c.put_back.new.units c.put_back.new.blocks in
    let lies = subst (λ (t : Tables). All (ViewLies t) views) (sym begun) c.requires.lies in
    let coded : put ≡ coded_tables (state_tables s b) views = coded_are c.deref-3.result.now old put (subst (λ (vs : List View). All (ViewLies old) vs) (sym lent) lies) (subst AreViewsApart (sym lent) c.requires.apart) c.put_back.ensures ∙ (ap (λ (vs : List View). coded_tables old vs) lent ∙ ap (λ (t : Tables). coded_tables t views) begun) in
    let made = coded_tables (state_tables s b) views in
    let frame : put.rec ≡ made.rec = ap (λ (t : Tables). t.rec) coded in
    let table : put.blocks ≡ made.blocks = ap (λ (t : Tables). t.blocks) coded in
    let input : view_frame number c.deref-4.result.now ≡ s.input = search rules in
    let levels = c.choose_levels-levels.ensures.value ∙ (λ i. levels_of p (table i).entries (frame i) (input i)) in
    let d = record c.fs.inside.deblock { levels = c.choose_levels-levels.result } in
    let taken : c.in_ok-motion.motion.items ≡ s.frame_me_stats = search rules in
    let whole : length c.in_ok-motion.motion.items ≡ c.in_ok-motion.motion.len = search rules in
    let count : length c.put_back.new.me ≡ c.in_ok-motion.motion.len = c.put_back.ensures.motion.count ∙ (ap (λ (ts : List (Rows MEStats)). length ts) (moved ∙ sym taken) ∙ whole) in
    let units_put : units_in c.put_back.new.units ≡ made.units = ap (λ (t : Tables). t.units) coded in
    let rebuilt = c.in_ok-filter_frame.ensures ∙ (λ i. finished p (units_put i) (table i).entries (deblocked p d (table i).entries (frame i))) in
    record {
      rec = rebuilt;
      layout = ap layouts rebuilt ∙ (finished_layout p made.units made.blocks.entries (deblocked p d made.blocks.entries made.rec) ∙ c.requires.made_for.state.rec);
      motion = refilled_whole c.in_ok-motion.motion.len c.in_ok-motion.motion.items c.put_back.new.me whole count ∙ ap (λ (t : Tables). t.motion) coded;
      restoration = units_put;
      blocks = table;
      deblock = λ i. with_levels (c.fs.view_is i).deblock (levels i);
    }
