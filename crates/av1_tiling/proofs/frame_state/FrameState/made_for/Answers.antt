use Rattle.av1_tiling.proofs.MadeFor.{state_made, input_made}
use Rattle.av1_tiling.proofs.frame_state.FrameState.made_for.Goals as goal

pub returns-then-has_planes_for : goal.returns-then-has_planes_for
returns-then-has_planes_for g c =
    let planes = c.has_planes_for.ensures.0 c.if-has_planes_for.true in
    (λ e. state_made c.args.fi.now c.args.self.now planes.0 planes.1 (c.has_tables_for.ensures.0 e), λ made. c.has_tables_for.ensures.1 (made.restoration, made.motion, made.shift))

pub returns-else-has_planes_for : goal.returns-else-has_planes_for
returns-else-has_planes_for g c = (
  λ e. absurd (cc),
  λ made.
      let holds = c.has_planes_for.ensures.1 (input_made c.args.fi.now c.args.self.now made, made.rec) in
      cc,
)
