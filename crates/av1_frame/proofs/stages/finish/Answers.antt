use Rattle.std.proofs.Common.{rules, ◌≡◌, true, false, sym, ap, ◌∙◌}
use Rattle.std.specs.Prelude.{if◌then◌else◌}
use Rattle.av1_tiling.specs.Frames.{Parameters}
use Rattle.av1_tiling.specs.Restoration.{units_in}
use Rattle.av1_tiling.specs.Views.{view_frame}
use Rattle.av1_lrf.specs.Restore.{restored_frame}
use Rattle.av1_frame.specs.Reference.{enhanced}
use Rattle.av1_frame.proofs.Enhancing.{copy_is}
use Rattle.av1_frame.proofs.stages.finish.Goals as goal
use Rattle.av1_frame.proofs.stages.finish.Goals.{then-fi+in_ok-lrf_filter_frame, else-fi}

pub returns : goal.returns
returns g c =
    let number = g.T.Pixel.number in
    let p = c.args.fi.now in
    let u = units_in c.args.units.now in
    let blocks = c.args.blocks.now.entries in
    let before = view_frame number c.args.frame.now in
    let copy = copy_is number c.args.frame.now c.in_ok-deblocked.deblocked c.in_ok-deblocked.ensures in
    let after = c.enhance.ensures.value ∙ ap (enhanced p blocks) copy in
    let asked = ap (λ (q : Parameters). q.sequence.enable_restoration) c.fi.view_is in
    elim c.if-fi.branch [
      | then-fi+in_ok-lrf_filter_frame w ↦
          let on : p.sequence.enable_restoration ≡ true = sym asked ∙ w.if-fi.true in
          let left : view_frame number c.if-fi.frame ≡ restored_frame p u (view_frame number c.in_ok-deblocked.deblocked) (view_frame number c.enhance.new.frame) = search rules in
          left ∙ ((λ i. restored_frame p u (copy i) (after i)) ∙ sym (λ i. if on i then restored_frame p u before (enhanced p blocks before) else enhanced p blocks before))
      | else-fi w ↦
          let off : p.sequence.enable_restoration ≡ false = sym asked ∙ w.if-fi.false in
          let left : view_frame number c.if-fi.frame ≡ view_frame number c.enhance.new.frame = search rules in
          left ∙ (after ∙ sym (λ i. if off i then restored_frame p u before (enhanced p blocks before) else enhanced p blocks before))
    ]
