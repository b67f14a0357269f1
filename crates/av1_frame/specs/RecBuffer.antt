-- The slots of reference frames after a frame (AV1 specification, section 7.20).
use Rattle.std.specs.Prelude.{ℕ, Bool, List, Some, length, map, ◌≡◌, ◌==◌, if◌then◌else◌}
use Rattle.std.specs.List.{enumerate_from}
use Rattle.std.specs.Int.{bit_at}
use Rattle.av1_tiling.specs.Frames.{Parameters, State}
use Rattle.av1_tiling.specs.References.{Reference, References}

-- there are eight slots
pub record HasSlots (r : References) : Type 0 where
  pub frames : length r.frames ≡ 8
  pub deblock : length r.deblock ≡ 8

-- what is kept of a frame under its number in output order
abbrev pub reference_frame : Parameters → State → ℕ → Reference
reference_frame p s output_frameno = record {
  order_hint = p.order_hint;
  width = p.width;
  height = p.height;
  render_width = p.render_width;
  render_height = p.render_height;
  frame = s.rec;
  input_hres = s.input_hres;
  input_qres = s.input_qres;
  frame_me_stats = s.frame_me_stats;
  output_frameno = output_frameno;
  segmentation = s.segmentation;
}

-- bit i of a frame's flags says that slot i is refreshed
abbrev pub is_refreshed : (flags i : ℕ) → Bool
is_refreshed flags i = bit_at flags i == 1

-- slot i is the new one where bit i of the flags is set, else the old one
abbrev pub refreshed_slots : {E : Type 0} → ℕ → E → List E → List E
refreshed_slots flags new slots =
    map (λ slot. if is_refreshed flags slot.0 then new else slot.1) (enumerate_from 0 slots)

-- the slots after a frame, each with its frame and with the deblocking state of that frame
abbrev pub refreshed : Parameters → State → ℕ → References
refreshed p s output_frameno = record {
  frames = refreshed_slots p.refresh_frame_flags (Some (reference_frame p s output_frameno))
      p.rec_buffer.frames;
  deblock = refreshed_slots p.refresh_frame_flags s.deblock p.rec_buffer.deblock;
}
