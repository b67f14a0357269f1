use Rattle.std.proofs.Common.{◌≡◌, sym, subst}
use Rattle.av1_tiling.specs.Frames.{Parameters}
use Rattle.av1_tiling.specs.Restoration.{units_in}
use Rattle.av1_lrf.specs.Wiener.{IsDepth}
use Rattle.av1_lrf.specs.Frames.{CanRestoreFrame, IsRestoredFrame}
use Rattle.std.specs.Prelude.{◌<◌, ◌≤◌, ◌^◌, IsSome, None}
use Rattle.av1_plane.specs.Sampling.{decimation}
use Rattle.av1_lrf.proofs.DepthFacts.{is_depth, depth_limit}
use Rattle.av1_lrf.proofs.FrameFacts.{can_restore_frame, restored_frame_is}
use Rattle.av1_lrf.proofs.frame.lrf_filter_frame.Goals as goal

pub restore_copy-requires-clause-can : goal.restore_copy-requires-clause-can
restore_copy-requires-clause-can g c =
    let p = c.args.fi.now in
    let planes = c.plane_count-planes.result in
    let chroma = subst (λ (q : Parameters). 1 < planes → IsSome (decimation q.sequence.chroma_sampling)) c.fi.view_is c.plane_count-planes.ensures.chroma in
    subst (λ (q : Parameters). CanRestoreFrame g.T.Pixel.number q.sequence.bit_depth 392 q.width q.height planes (units_in c.args.state.now) c.args.pre_cdef.now c.args.out.now) (sym c.fi.view_is)
    (can_restore_frame g.T.Pixel.number g.T.Pixel.limit planes p (units_in c.args.state.now) c.args.pre_cdef.now c.args.out.now c.requires.frame c.requires.state c.requires.units c.requires.pre_cdef c.requires.out chroma)

pub restore_copy-requires-clause-depth : goal.restore_copy-requires-clause-depth
restore_copy-requires-clause-depth g c =
    subst (λ (q : Parameters). IsDepth q.sequence.bit_depth) (sym c.fi.view_is) (is_depth g.T.Pixel.limit c.args.fi.now.sequence.bit_depth c.requires.frame.depth)

pub restore_copy-requires-clause-limit : goal.restore_copy-requires-clause-limit
restore_copy-requires-clause-limit g c =
    subst (λ (q : Parameters). 2 ^ q.sequence.bit_depth ≤ g.T.Pixel.limit) (sym c.fi.view_is) (depth_limit g.T.Pixel.limit c.args.fi.now.sequence.bit_depth c.requires.frame.depth)

pub returns-clause-ok : goal.returns-clause-ok
returns-clause-ok g c =
    let p = c.args.fi.now in
    let planes = c.plane_count-planes.result in
    let chroma = subst (λ (q : Parameters). 1 < planes → IsSome (decimation q.sequence.chroma_sampling)) c.fi.view_is c.plane_count-planes.ensures.chroma in
    let luma = subst (λ (q : Parameters). planes ≤ 1 → decimation q.sequence.chroma_sampling ≡ None) c.fi.view_is c.plane_count-planes.ensures.luma in
    let can = can_restore_frame g.T.Pixel.number g.T.Pixel.limit planes p (units_in c.args.state.now) c.args.pre_cdef.now c.args.out.now c.requires.frame c.requires.state c.requires.units c.requires.pre_cdef c.requires.out chroma in
    let made = subst (λ (q : Parameters). IsRestoredFrame g.T.Pixel.number q.sequence.enable_cdef q.sequence.bit_depth q.width q.height planes (units_in c.args.state.now) c.args.pre_cdef.now c.args.out.now c.restore_copy.new.out) c.fi.view_is c.in_ok-restore_copy.ensures.ok in
    restored_frame_is g.T.Pixel.number planes p (units_in c.args.state.now) c.args.pre_cdef.now c.args.out.now c.restore_copy.new.out c.requires.out can luma made
