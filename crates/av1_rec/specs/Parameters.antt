-- The parameters of the frame of a text.
use Rattle.std.specs.Prelude.{◌/◌, false}
use Rattle.std.specs.Int.{div_ceil}
use Rattle.av1_plane.specs.Layout.{rounded}
use Rattle.av1_tiling.specs.declared.tiling_info.TilingInfo.{TilingInfo}
use Rattle.av1_tiling.specs.Frames.{Parameters}
use Rattle.av1_tiling.specs.References.{no_references}
use Rattle.av1_rec.specs.declared.text.header.Header.{Header}

-- the parameters of a header's frame with this tiling; nothing is kept of other frames
abbrev pub frame_parameters : Header → TilingInfo → Parameters
frame_parameters h t = record {
  sequence = record {
    bit_depth = h.format.depth;
    chroma_sampling = h.format.sampling;
    use_128x128_superblock = false;
    enable_cdef = h.switches.enable_cdef;
    enable_restoration = h.switches.enable_restoration;
    enable_large_lru = h.switches.enable_large_lru;
    tiling = t;
  };
  width = h.format.width;
  height = h.format.height;
  sb_width = div_ceil h.format.width 64;
  sb_height = div_ceil h.format.height 64;
  w_in_b = rounded h.format.width / 4;
  h_in_b = rounded h.format.height / 4;
  frame_type = h.frame_type;
  base_q_idx = h.quantizers.base_q_idx;
  ac_quantizer = h.quantizers.ac_quantizer;
  cdef_damping = h.cdef.damping;
  cdef_y_strengths = h.cdef.y_strengths;
  cdef_uv_strengths = h.cdef.uv_strengths;
  fast_deblock = h.switches.fast_deblock;
  disable_frame_end_update_cdf = h.switches.disable_frame_end_update_cdf;
  order_hint = 0;
  render_width = h.format.width;
  render_height = h.format.height;
  refresh_frame_flags = 0;
  rec_buffer = no_references;
}
