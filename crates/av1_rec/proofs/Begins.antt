-- A text that is read begins with the parameters of one frame, and with an input made for the frame.
use Rattle.std.proofs.Common.{◌≡◌, ◌≤◌, ℕ, ◌^◌, Bool, true, false, cond, eqb, ◌||◌, refl, sym, subst, arith}
use Rattle.std.specs.Prelude.{IsTrue}
use Rattle.std.proofs.lemmas.Bool.Decides.{nat_tests}
use Rattle.std.proofs.lemmas.Nat.{pow_pos}
use Rattle.av1_tiling.specs.declared.tiling_info.TilingInfo.{TilingInfo}
use Rattle.av1_tiling.specs.Frames.{Parameters, FitsDepth, IsFrame, IsInputFor}
use Rattle.av1_rec.specs.declared.text.header.FrameFormat.{FrameFormat}
use Rattle.av1_rec.specs.declared.text.header.Header.{Header}
use Rattle.av1_rec.specs.Header.{IsHeader, may_be_large}
use Rattle.av1_rec.specs.Parameters.{frame_parameters}
use Rattle.av1_rec.specs.Picture.{source_frame}
use Rattle.av1_rec.specs.Read.{IsRead}
use Rattle.av1_rec.specs.Text.{Said, tiling}
use Rattle.av1_rec.proofs.PictureRange.{source_in_range}
use Rattle.av1_rec.proofs.TileFacts.{grid_found}
use Rattle.std.specs.Prelude.{Ok}

-- sides that pass the test for large units have two samples or more
two_samples : (w h : ℕ) → cond (eqb w 1 || eqb h 1) false true ≡ true → 1 ≤ w → 1 ≤ h → (2 ≤ w) × (2 ≤ h)
two_samples w h e some_w some_h = (grind (arith, nat_tests), grind (arith, nat_tests))

-- large units lie in frames of at least two samples each way
large_sides : (f : FrameFormat) (restoration large : Bool) → may_be_large f restoration large ≡ true → IsTrue large → IsTrue restoration
    → 1 ≤ f.width → 1 ≤ f.height → (2 ≤ f.width) × (2 ≤ f.height)
large_sides f true true e l r w h = two_samples f.width f.height e w h
large_sides f true false e l r w h = absurd cc
large_sides f false large e l r w h = absurd cc

-- the parameters of a right header are those of one frame
pub header_frame : (limit : ℕ) (h : Header) (t : TilingInfo) → IsHeader h → tiling h ≡ Ok t → FitsDepth limit h.format.depth → IsFrame limit (frame_parameters h t)
header_frame limit h t right tiled fits = record {
  width = right.width;
  height = right.height;
  depth = fits;
  superblock = refl;
  columns = refl;
  rows = refl;
  superblock_columns = refl;
  superblock_rows = refl;
  y_strengths = right.y_strengths;
  uv_strengths = right.uv_strengths;
  damping = right.damping;
  tiling = (h.target.num, h.target.den, h.target.cols_log2, h.target.rows_log2, grid_found h t tiled);
  large_units = λ large on. large_sides h.format h.switches.enable_restoration h.switches.enable_large_lru right.large large on right.width.0 right.height.0;
}

-- parameters that are those of a right header are the parameters of one frame
pub frame_made : (limit : ℕ) (p : Parameters) (h : Header) (t : TilingInfo) → p ≡ frame_parameters h t → IsHeader h → tiling h ≡ Ok t → FitsDepth limit h.format.depth → IsFrame limit p
frame_made limit p h t same right tiled fits = subst (IsFrame limit) (sym same) (header_frame limit h t right tiled fits)

-- the source of a text that is read is an input of its frame
input_of : (s : Said) → IsRead s → IsInputFor (frame_parameters s.header s.tiling) (source_frame s.header.format s.source)
unfolding source_frame
input_of s read =
    let bound = 2 ^ s.header.format.depth in
    let ranges = source_in_range bound (pow_pos s.header.format.depth) s.header.format s.source read.depth in
    record { layout = refl; y_range = ranges.0; u_range = ranges.1; v_range = ranges.2 }

-- the source of a text that is read is an input for parameters that are the frame's
pub source_made : (p : Parameters) (s : Said) → p ≡ frame_parameters s.header s.tiling → IsRead s → IsInputFor p (source_frame s.header.format s.source)
source_made p s same read = subst (λ q. IsInputFor q (source_frame s.header.format s.source)) (sym same) (input_of s read)
