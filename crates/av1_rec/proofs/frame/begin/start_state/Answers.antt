use Rattle.std.proofs.Common.{sym, subst}
use Rattle.av1_tiling.specs.Frames.{State, IsStateFor}
use Rattle.av1_rec.proofs.frame.begin.start_state.Goals as goal

pub returns-clause-made_for : goal.returns-clause-made_for
returns-clause-made_for g c =
    let made = c.in_ok-fs.ensures.made_for in
    let deblock = c.args.header.now.deblock in
    subst (λ (s : State). IsStateFor c.args.fi.now (record s { deblock = deblock })) (sym c.fs.view_is) (record {
      input = made.input;
      rec = made.rec;
      y_range = made.y_range;
      u_range = made.u_range;
      v_range = made.v_range;
      shift = c.requires.shift;
      motion = made.motion;
      restoration = made.restoration;
    })
