-- What coding the frame of a text begins with: its state and its blocks.
use Rattle.std.specs.Prelude.{ℤ, ◌*◌, List, replicate}
use Rattle.av1_plane.specs.declared.three.Three.{Three}
use Rattle.av1_plane.specs.Layout.{plane_layout}
use Rattle.av1_block.specs.Block.{default_block}
use Rattle.av1_block.specs.declared.block.Block.{Block}
use Rattle.av1_tiling.specs.declared.tiling_info.TilingInfo.{TilingInfo}
use Rattle.av1_tiling.specs.Views.{PlaneView}
use Rattle.av1_tiling.specs.Frames.{Parameters, State, blank, start}
use Rattle.av1_rec.specs.declared.text.header.Header.{Header}
use Rattle.av1_rec.specs.Parameters.{frame_parameters}
use Rattle.av1_rec.specs.Picture.{source_frame}

-- a plane without samples
abbrev pub no_plane : PlaneView
no_plane = blank (plane_layout 0 0 0 0 0 0)

-- the source, spread over its margins, a reconstruction of zeros, and the header's deltas
abbrev pub start_state : Header → TilingInfo → Three (List (List ℤ)) → State
start_state h t source =
    record (start (frame_parameters h t) (source_frame h.format source) no_plane no_plane) { deblock = h.deblock }

-- a table of default blocks
abbrev pub start_blocks : Parameters → List Block
start_blocks p = replicate (p.w_in_b * p.h_in_b) default_block
