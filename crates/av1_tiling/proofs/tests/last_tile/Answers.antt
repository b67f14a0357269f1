use Rattle.std.proofs.Common.{◌≡◌, ℕ, subst, ◌∙◌, arith}
use Rattle.av1_plane.specs.Layout.{frame_layout}
use Rattle.av1_plane.specs.declared.sampling.ChromaSampling.TheVariants.{Cs420}
use Rattle.av1_tiling.specs.Frames.{AreMotionTables}
use Rattle.av1_tiling.proofs.UnitTiles.{frame_units}
use Rattle.av1_tiling.proofs.tests.last_tile.Goals as goal

pub new-requires-clause-tile : goal.new-requires-clause-tile
new-requires-clause-tile c =
    let p = c.in_ok-nine_tiles.field-0 in
    let fs = c.in_ok-fs.fs in
    let frame = c.in_ok-nine_tiles.ensures in
    let state = c.in_ok-fs.ensures in
    let units = frame_units 256 p fs.restoration frame.frame state.restoration in
    record {
      frame_width = 160;
      frame_height = 144;
      sampling = Cs420;
      layout = state.rec ∙ (λ i. frame_layout (frame.width i) (frame.height i) (frame.sampling i));
      motion = subst (λ (n : ℕ). AreMotionTables 40 n fs.frame_me_stats) frame.rows (subst (λ (n : ℕ). AreMotionTables n p.h_in_b fs.frame_me_stats) frame.columns state.motion);
      y_units = units.y.units;
      u_units = units.u.units;
      v_units = units.v.units;
      width_limit = omega arith;
      height_limit = omega arith;
      wide = omega arith;
      high = omega arith;
    }
