use Rattle.std.proofs.Common.{◌≡◌, ℕ, List, inl, refl, ap, subst, ◌∙◌}
use Rattle.av1_frame.specs.declared.group_error.GroupError.TheVariants.{OutOfMemory}
use Rattle.av1_tiling.specs.Frames.{Parameters}
use Rattle.av1_frame.specs.Outcome.{IsAccepted, IsCause, job_of}
use Rattle.av1_rec.specs.Begin.{start_blocks}
use Rattle.av1_rec.specs.Group.{said_job, shown, reported, reported_text}
use Rattle.av1_rec.specs.Recorded.{recorded_meaning}
use Rattle.av1_rec.specs.Text.{said}
use Rattle.av1_rec.proofs.Begins.{frame_made, source_made}
use Rattle.av1_rec.proofs.Reports.{handed_on, holds_shown, job_is}
use Rattle.av1_rec.proofs.program.group.coded_report.Goals as goal

pub start_state-requires-clause-frame : goal.start_state-requires-clause-frame
start_state-requires-clause-frame g c =
    frame_made g.T.Pixel.limit c.in_ok-fi.fi c.args.text.header c.args.text.tiling c.in_ok-fi.ensures c.requires.read.header c.requires.read.tiling c.requires.depth

pub start_state-requires-clause-input : goal.start_state-requires-clause-input
start_state-requires-clause-input g c =
    source_made c.in_ok-fi.fi (said g.T.Pixel.number c.args.text) c.in_ok-fi.ensures c.requires.read

pub encode_tile_group-requires-clause-frame : goal.encode_tile_group-requires-clause-frame
encode_tile_group-requires-clause-frame g c κs within =
    frame_made g.T.Pixel.limit c.in_ok-fi.fi c.args.text.header c.args.text.tiling c.in_ok-fi.ensures c.requires.read.header c.requires.read.tiling c.requires.depth

pub frame_report-requires-clause-frame : goal.frame_report-requires-clause-frame
frame_report-requires-clause-frame g c =
    frame_made g.T.Pixel.limit c.in_ok-fi.fi c.args.text.header c.args.text.tiling c.in_ok-fi.ensures c.requires.read.header c.requires.read.tiling c.requires.depth

pub returns-in_err-group-clause-causes : goal.returns-in_err-group-clause-causes
returns-in_err-group-clause-causes g c =
    let fresh = subst (λ (p : Parameters). c.in_ok-blocks.blocks.entries ≡ start_blocks p) c.fi.view_is c.in_ok-blocks.ensures.blocks in
    let given = c.in_err-group.field-0.0 in
    let same = job_is (said g.T.Pixel.number c.args.text) c.in_ok-fi.fi c.in_ok-fs.fs c.in_ok-blocks.blocks.entries c.in_ok-fi.ensures c.in_ok-fs.ensures.start fresh in
    handed_on c.from_residual-in_err-group.result given (IsCause (said_job (said g.T.Pixel.number c.args.text)))
    c.from_residual-in_err-group.ensures (subst (λ j. IsCause j given) same c.in_err-group.ensures.causes)

pub returns-clause-accepted : goal.returns-clause-accepted
returns-clause-accepted g c =
    let fresh = subst (λ (p : Parameters). c.in_ok-blocks.blocks.entries ≡ start_blocks p) c.fi.view_is c.in_ok-blocks.ensures.blocks in
    subst IsAccepted (job_is (said g.T.Pixel.number c.args.text) c.in_ok-fi.fi c.in_ok-fs.fs c.in_ok-blocks.blocks.entries c.in_ok-fi.ensures c.in_ok-fs.ensures.start fresh)
    c.in_ok-group.ensures.accepted

pub returns-clause-report : goal.returns-clause-report
returns-clause-report g c =
    let s = said g.T.Pixel.number c.args.text in
    let p = c.in_ok-fi.fi in
    let blocks = c.in_ok-blocks.blocks.entries in
    let fresh = subst (λ (p : Parameters). c.in_ok-blocks.blocks.entries ≡ start_blocks p) c.fi.view_is c.in_ok-blocks.ensures.blocks in
    let j = job_of (recorded_meaning s.tiling s.tiles) p c.in_ok-fs.fs blocks in
    let after = c.encode_tile_group.new.fs in
    let same = job_is s p c.in_ok-fs.fs blocks c.in_ok-fi.ensures c.in_ok-fs.ensures.start fresh in
    let bytes = ap (λ (group : List ℕ). shown p after group) c.deref.ensures.value in
    c.in_ok-frame_report.ensures
    ∙ ap (reported_text c.args.form) (bytes ∙ (holds_shown j c.in_ok-group.group.items after c.encode_tile_group.new.blocks.entries c.in_ok-group.ensures.left ∙ ap reported same))

pub encode_tile_group-requires-clause-made_for : goal.encode_tile_group-requires-clause-made_for
encode_tile_group-requires-clause-made_for g c κs within = record {
  state = c.in_ok-fs.ensures.made_for;
  blocks = record {
    columns = subst (λ (p : Parameters). c.in_ok-blocks.blocks.cols ≡ p.w_in_b) c.fi.view_is c.in_ok-blocks.ensures.cols;
    rows = subst (λ (p : Parameters). c.in_ok-blocks.blocks.rows ≡ p.h_in_b) c.fi.view_is c.in_ok-blocks.ensures.rows;
  };
}

pub returns-in_err-frame_report-clause-causes : goal.returns-in_err-frame_report-clause-causes
returns-in_err-frame_report-clause-causes g c =
    handed_on c.from_residual-in_err-frame_report.result OutOfMemory (IsCause (said_job (said g.T.Pixel.number c.args.text)))
    c.from_residual-in_err-frame_report.ensures (inl refl)
