-- The small frame of the tests.
use Rattle.std.proofs.Common.{◌≡◌, ℕ, pos, ◌+◌, ◌*◌, ◌<◌, ◌≤◌, ◌^◌, List, [], ◌∷◌, All, length, get_or, set, sym, subst, arith, inl, inr}
use Rattle.std.proofs.lemmas.Bool.{cases_lt}
use Rattle.std.proofs.lemmas.Grind.{get_or-set_at}
use Rattle.std.proofs.lemmas.List.{get_or-replicate, get_or-set_other, length-replicate}
use Rattle.std.proofs.lemmas.List.Elements.{All-replicate}
use Rattle.av1_plane.specs.declared.frame.Frame.{Frame}
use Rattle.av1_block.specs.RestorationUnit.{no_unit}
use Rattle.av1_block.specs.declared.restoration_unit.RestorationUnit.{RestorationUnit}
use Rattle.av1_tiling.specs.declared.restoration_plane.RestorationPlaneConfig.{RestorationPlaneConfig}
use Rattle.av1_tiling.specs.Views.{view_frame}
use Rattle.av1_tiling.specs.Frames.{Parameters, IsFrame, IsInputFor}
use Rattle.av1_tiling.specs.Restoration.{AreUnits, IsUnit, blank_units}
use Rattle.av1_lrf.specs.Rows.{HasStripePicture}
use Rattle.av1_lrf.proofs.FrameFacts.{luma_plane_picture}

-- the luma plane of an input of 8 by 8 has a picture of these sides
pub small_picture : (f : Frame ℕ) (p : Parameters) → IsFrame 256 p → p.width ≡ 8 → p.height ≡ 8 → IsInputFor p (view_frame pos f)
    → HasStripePicture pos (2 ^ p.sequence.bit_depth) 8 8 f.planes.y
small_picture f p h ew eh i = rw (ew, eh) at (luma_plane_picture pos 256 p f h i)

-- units without a filter are such as a bitstream can describe
pub blank_described : (cfg : RestorationPlaneConfig) → AreUnits (blank_units cfg)
blank_described cfg = record {
  each = λ i l.
      let n = cfg.cols * cfg.rows in
      let inside : i < n = let m = length-replicate n no_unit in omega arith in
      subst IsUnit (sym (get_or-replicate n i no_unit no_unit inside)) tt;
}

-- a table of units of which the first i are such as a bitstream can describe, with one more
pub one_more_unit : (units : List RestorationUnit) (unit : RestorationUnit) (i k : ℕ) (d : RestorationUnit) → IsUnit unit → i < length units
    → ((j : ℕ) (e : RestorationUnit) → j < i → IsUnit (get_or units j e)) → k < i + 1 → IsUnit (get_or (set units i unit) k d)
one_more_unit units unit i k d good inside h l = elim (cases_lt k i) [
  | inl before ↦ subst IsUnit (sym (get_or-set_other units i k unit d (λ e. absurd (omega arith)))) (h k d before)
  | inr past ↦ subst IsUnit (sym (get_or-set_at units i k unit d (omega arith) inside)) good
]

-- eight strengths of 0
pub eight_zeros : All (λ s. s ≤ 63) (0 ∷ 0 ∷ 0 ∷ 0 ∷ 0 ∷ 0 ∷ 0 ∷ 0 ∷ [])
eight_zeros = All-replicate (λ s. s ≤ 63) 8 0 (omega arith)
