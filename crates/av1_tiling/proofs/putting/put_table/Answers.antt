use Rattle.std.proofs.Common.{◌≡◌, length, rules, refl, ap, ◌∙◌}
use Rattle.av1_tiling.specs.Puts.{put}
use Rattle.av1_tiling.specs.Views.{view_cut}
use Rattle.av1_tiling.proofs.PutBack.{refilled_whole}
use Rattle.av1_tiling.proofs.putting.put_table.Goals as goal

pub returns : goal.returns
returns g c =
    let old = c.args.table.now in
    let long : length c.put_back.new.table ≡ length old.entries = search rules in
    let entries =
    refilled_whole (length old.entries) old.entries c.put_back.new.table refl long
    ∙ (c.put_back.ensures ∙ ap (λ t. put t (view_cut c.args.cut.now)) c.entries_mut.ensures.entries) in
    λ i. record old { entries = entries i }
