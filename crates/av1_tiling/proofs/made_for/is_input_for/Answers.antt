use Rattle.std.proofs.Common.{◌≡◌, ℕ, ◌^◌, sym, ap, subst}
use Rattle.av1_tiling.specs.Frames.{Parameters, IsInRange}
use Rattle.av1_tiling.specs.Views.{PlaneView, view_plane}
use Rattle.av1_tiling.proofs.made_for.is_input_for.Goals as goal

-- samples of one depth are of an equal one
with_depth : (d e : ℕ) (p : PlaneView) → d ≡ e → IsInRange (2 ^ d) p → IsInRange (2 ^ e) p
with_depth d e p same h = subst (λ (n : ℕ). IsInRange (2 ^ n) p) same h

pub returns-then-has_frame_layout : goal.returns-then-has_frame_layout
returns-then-has_frame_layout g c =
    let number = g.T.Pixel.number in
    let f = c.args.frame.now.planes in
    let inner = c.fi.inside.sequence.bit_depth in
    let outer = c.args.fi.now.sequence.bit_depth in
    let same : inner ≡ outer = ap (λ (p : Parameters). p.sequence.bit_depth) c.fi.view_is in (
      λ e.
          let h = c.is_frame_in_range.ensures.0 e in
          record {
            layout = c.has_frame_layout.ensures.0 c.if-has_frame_layout.true;
            y_range = with_depth inner outer (view_plane number f.y) same h.0;
            u_range = with_depth inner outer (view_plane number f.u) same h.1;
            v_range = with_depth inner outer (view_plane number f.v) same h.2;
          },
      λ made.
          c.is_frame_in_range.ensures.1 (with_depth outer inner (view_plane number f.y) (sym same) made.y_range, with_depth outer inner (view_plane number f.u) (sym same) made.u_range, with_depth outer inner (view_plane number f.v) (sym same) made.v_range),
    )
