-- What a new frame shows, and the state that coding a frame begins with.
use Rattle.std.proofs.Common.{◌≡◌, ℕ, ◌+◌, ◌*◌, ◌^◌, ◌<◌, ℤ, pos, inl, inr, List, get_or, replicate, refl, sym, ap, ◌∙◌, arith}
use Rattle.std.proofs.lemmas.Bool.{cases_lt}
use Rattle.std.proofs.lemmas.Nat.{pow_pos}
use Rattle.std.proofs.lemmas.List.{get_or-replicate, get_or_past, length-replicate}
use Rattle.av1_plane.specs.declared.plane.Plane.{Plane}
use Rattle.av1_plane.specs.declared.plane.PlaneConfig.{PlaneConfig}
use Rattle.av1_plane.specs.Layout.{frame_layout}
use Rattle.av1_plane.specs.Numbers.{InDepth}
use Rattle.std.proofs.lemmas.List.Elements.{All-replicate}
use Rattle.av1_block.specs.Motion.{no_stats}
use Rattle.av1_tiling.specs.Motion.{blank_motion}
use Rattle.av1_plane.specs.declared.frame.Frame.{Frame}
use Rattle.av1_plane.specs.declared.sampling.ChromaSampling.{ChromaSampling}
use Rattle.av1_plane.specs.declared.three.Three.{Three}
use Rattle.av1_plane.specs.Planes.{IsZeroed, IsBlank}
use Rattle.av1_block.specs.RestorationUnit.{no_unit}
use Rattle.av1_tiling.specs.declared.restoration_plane.RestorationPlaneConfig.{RestorationPlaneConfig}
use Rattle.av1_tiling.specs.Restoration.{HasLayout, blank_units}
use Rattle.av1_tiling.specs.UnitSizes.{unit_layouts}
use Rattle.av1_tiling.specs.Views.{PlaneView, IsFullTable, view_plane, view_frame}
use Rattle.av1_tiling.specs.Frames.{Parameters, IsInRange, IsInputFor, IsStateFor, blank_frame, start}

-- a new frame is seen as planes of zeros
pub blank_view : {X : Type 0} (number : X → ℤ) (w h : ℕ) (sampling : ChromaSampling) (f : Frame X) → IsBlank number w h sampling f → view_frame number f ≡ blank_frame w h sampling
blank_view number w h sampling f b = λ i. record {
  y = record { cfg = b.y.cfg i; samples = b.y.samples i };
  u = record { cfg = b.u.cfg i; samples = b.u.samples i };
  v = record { cfg = b.v.cfg i; samples = b.v.samples i };
}

-- blank units have the layout that they are made with
pub blank_made : (cfg : RestorationPlaneConfig) → HasLayout cfg (blank_units cfg)
blank_made cfg = record { layout = refl; cols = refl; rows = refl; entries = length-replicate (cfg.cols * cfg.rows) no_unit }

-- the first state of a frame is made for the frame
pub start_made : (p : Parameters) (input : Three PlaneView) (hres qres : PlaneView) → IsInputFor p input → IsStateFor p (start p input hres qres)
start_made p input hres qres made = record {
  input = made.layout;
  rec = refl;
  y_range = made.y_range;
  u_range = made.u_range;
  v_range = made.v_range;
  restoration = record { y = blank_made (unit_layouts p).y; u = blank_made (unit_layouts p).u; v = blank_made (unit_layouts p).v };
  motion = record { count = refl; sides = All-replicate (λ t. (t.cols ≡ p.w_in_b) × (t.rows ≡ p.h_in_b)) 8 (blank_motion p.w_in_b p.h_in_b) (refl, refl); full = All-replicate IsFullTable 8 (blank_motion p.w_in_b p.h_in_b) (length-replicate (p.w_in_b * p.h_in_b) no_stats) };
  shift = omega arith;
}

-- the entries of a list of zeros, also past its end
zero_at : (n i : ℕ) → get_or (replicate n (pos 0)) i (pos 0) ≡ pos 0
zero_at n i = elim (cases_lt i n) [
  | inl below ↦ get_or-replicate n i (pos 0) (pos 0) below
  | inr past ↦ get_or_past (replicate n (pos 0)) i (pos 0) (rw length-replicate past)
]

-- The number 0 is below every bound above 0.
in_range : (bound : ℕ) (z : ℤ) → 0 < bound → z ≡ pos 0 → InDepth bound z
in_range bound z some e = rw e (grind arith, grind arith)

-- a plane of zeros is below every bound
blank_in_range : {X : Type 0} (number : X → ℤ) (layout : PlaneConfig) (p : Plane X) (bound : ℕ) → 0 < bound → IsZeroed number layout p → IsInRange bound (view_plane number p)
blank_in_range number layout p bound some zeroed x y hx hy =
    let i = (p.cfg.yorigin + y) * p.cfg.stride + (p.cfg.xorigin + x) in
    in_range bound (get_or (view_plane number p).samples i (pos 0)) some (ap (λ (xs : List ℤ). get_or xs i (pos 0)) zeroed.samples ∙ zero_at (layout.stride * layout.alloc_height) i)

-- a new frame can be the input of a frame of its sides and its sampling
pub blank_input : {X : Type 0} (number : X → ℤ) (p : Parameters) (f : Frame X) (w h : ℕ) (sampling : ChromaSampling) → p.width ≡ w → p.height ≡ h → p.sequence.chroma_sampling ≡ sampling
    → IsBlank number w h sampling f → IsInputFor p (view_frame number f)
blank_input number p f w h sampling wide high sampled b =
    let bound = 2 ^ p.sequence.bit_depth in
    let some : 0 < bound = pow_pos p.sequence.bit_depth in
    record {
      layout = λ i. record {
        y = (b.y.cfg ∙ sym (λ j. (frame_layout (wide j) (high j) (sampled j)).y)) i;
        u = (b.u.cfg ∙ sym (λ j. (frame_layout (wide j) (high j) (sampled j)).u)) i;
        v = (b.v.cfg ∙ sym (λ j. (frame_layout (wide j) (high j) (sampled j)).v)) i;
      };
      y_range = blank_in_range number (frame_layout w h sampling).y f.planes.y bound some b.y;
      u_range = blank_in_range number (frame_layout w h sampling).u f.planes.u bound some b.u;
      v_range = blank_in_range number (frame_layout w h sampling).v f.planes.v bound some b.v;
    }
