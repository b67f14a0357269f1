-- What coded tiles make of the tables of a state can be filtered, and the filters keep the layout of the frame.
use Rattle.std.proofs.Common.{◌≡◌, ◌<◌, ℕ, List, All, get_or, Bool, true, false, refl, ◌∙◌}
use Rattle.std.specs.Prelude.{if◌then◌else◌}
use Rattle.av1_plane.specs.declared.three.Three.{Three}
use Rattle.av1_block.specs.declared.block.Block.{Block}
use Rattle.av1_block.specs.Block.{first_ref}
use Rattle.av1_block.specs.Rows.{Rows}
use Rattle.av1_block.specs.Rule.{IsBlock}
use Rattle.av1_block.specs.Sides.{ref_number}
use Rattle.av1_block.proofs.Rules.{ref_number_below}
use Rattle.av1_tiling.specs.Views.{PlaneView, View}
use Rattle.av1_tiling.specs.Frames.{Parameters, State, IsStateFor, IsInputFor, layouts}
use Rattle.av1_tiling.specs.Puts.{coded_tables}
use Rattle.av1_tiling.specs.Coded.{state_tables}
use Rattle.av1_tiling.specs.Restoration.{Units}
use Rattle.av1_cdef.specs.Whole.{view_picture, whole_frame, cdef_frame}
use Rattle.av1_lrf.specs.Restore.{with_restored_picture, restored_plane, restored_frame}
use Rattle.av1_frame.proofs.Enhancing.{cdef_cfg}
use Rattle.av1_frame.specs.Reference.{CanRebuild, enhanced, restored_where_on, finished}

-- coded planes in depth are a frame for the parameters of their state
pub coded_input : (p : Parameters) (s : State) (blocks : Rows Block) (views : List View) → IsStateFor p s → CanRebuild p (coded_tables (state_tables s blocks) views)
    → IsInputFor p (coded_tables (state_tables s blocks) views).rec
coded_input p s blocks views state valid = record {
  layout = state.rec;
  y_range = valid.y_range;
  u_range = valid.u_range;
  v_range = valid.v_range;
}

-- blocks as a bitstream describes them are predicted from one of eight frames
pub all_predicted : (xdec ydec : ℕ) (blocks : List Block) → All (IsBlock xdec ydec) blocks → All (λ b. ref_number (first_ref b) < 8) blocks
all_predicted xdec ydec blocks h k d l = let block = h k d l in ref_number_below (first_ref (get_or blocks k d)) block.reference

-- a plane after restoration keeps its layout
restored_cfg : (p : Parameters) (u : Units) (d e : PlaneView) → (restored_plane p u d e).cfg ≡ e.cfg
unfolding with_restored_picture
restored_cfg p u d e = refl

module _ (p : Parameters) (u : Three Units) (blocks : List Block) (f : Three PlaneView) where
  -- the enhanced planes keep the layout
  enhanced_layout : layouts (enhanced p blocks f) ≡ layouts f
  enhanced_layout = by p.sequence.enable_cdef
    where
      by : (b : Bool) → layouts (if b then cdef_frame p blocks f else f) ≡ layouts f
      by true = λ i. record { y = cdef_cfg (whole_frame p blocks (view_picture f.y)) 0 f.y i; u = cdef_cfg (whole_frame p blocks (view_picture f.y)) 1 f.u i; v = cdef_cfg (whole_frame p blocks (view_picture f.y)) 2 f.v i }
      by false = refl

  -- restored planes have the layouts of the enhanced ones
  restored_layout : (e : Three PlaneView) → layouts (restored_where_on p u f e) ≡ layouts e
  restored_layout e = by p.sequence.enable_restoration
    where
      by : (b : Bool) → layouts (if b then restored_frame p u f e else e) ≡ layouts e
      by true = λ i. record { y = restored_cfg p u.y f.y e.y i; u = restored_cfg p u.u f.u e.u i; v = restored_cfg p u.v f.v e.v i }
      by false = refl

  -- all stages after deblocking keep the layouts of the planes
  pub finished_layout : layouts (finished p u blocks f) ≡ layouts f
  finished_layout = restored_layout (enhanced p blocks f) ∙ enhanced_layout
