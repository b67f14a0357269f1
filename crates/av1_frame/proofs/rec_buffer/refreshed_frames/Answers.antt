use Rattle.std.proofs.Common.{ap, ◌∙◌, if◌then◌else◌, Some, map, option_map}
use Rattle.std.specs.Arc.{arc_value}
use Rattle.av1_frame.specs.RecBuffer.{is_refreshed}
use Rattle.av1_frame.proofs.Refreshing.{refreshed_more_seen}
use Rattle.av1_frame.proofs.rec_buffer.refreshed_frames.Goals as goal

pub loop-i-preserved : goal.loop-i-preserved
loop-i-preserved g c =
    ap (map (option_map (λ a. arc_value a))) c.in_ok-push.ensures.items
    ∙ refreshed_more_seen (option_map (λ a. arc_value a)) c.args.flags (Some (arc_value c.args.reference.now)) c.args.frames.now c.loop-i.slots.items c.loop-i.i c.in_ok-refreshed_frame.field-0 c.index-frames-i.result c.loop-i-test.true c.loop-i.invariant
    (c.in_ok-refreshed_frame.ensures
    ∙ ap (λ slot. if is_refreshed c.args.flags c.loop-i.i then Some (arc_value c.args.reference.now) else option_map (λ a. arc_value a) slot) c.index-frames-i.is)
