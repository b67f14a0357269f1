-- What stays while a frame is coded: its header (AV1 specification, sections 5.5 and 5.9), as plain numbers.
use Rattle.std.specs.Prelude.{ℕ, Bool, List}
use Rattle.av1_tiling.specs.declared.sequence.Sequence.{Sequence}
use Rattle.av1_tiling.specs.declared.frame_invariants.FrameType.{FrameType}
use Rattle.av1_tiling.specs.References.{References}

-- what stays while a frame is coded
pub record Parameters : Type 0 where
  pub sequence : Sequence
  pub width : ℕ
  pub height : ℕ
  pub sb_width : ℕ
  pub sb_height : ℕ
  pub w_in_b : ℕ
  pub h_in_b : ℕ
  pub frame_type : FrameType
  pub base_q_idx : ℕ
  pub ac_quantizer : ℕ
  pub cdef_damping : ℕ
  pub cdef_y_strengths : List ℕ
  pub cdef_uv_strengths : List ℕ
  pub fast_deblock : Bool
  pub disable_frame_end_update_cdf : Bool
  pub order_hint : ℕ
  pub render_width : ℕ
  pub render_height : ℕ
  pub refresh_frame_flags : ℕ
  pub rec_buffer : References
