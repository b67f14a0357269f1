-- The small frame of the tests.
use Rattle.std.proofs.Common.{◌≡◌, ℕ, ℤ, pos, ◌+◌, ◌*◌, ◌<◌, ◌≤◌, List, [], ◌∷◌, length, get_or, map, All, sym, ap, subst, arith, inl, inr}
use Rattle.std.proofs.lemmas.Bool.{cases_lt}
use Rattle.std.proofs.lemmas.List.{get_or_past}
use Rattle.std.proofs.lemmas.List.Elements.{All-get_or, All-cons}
use Rattle.av1_plane.specs.Numbers.{InDepth, Below}
use Rattle.av1_plane.specs.Layout.{frame_layout, plane_layout}
use Rattle.av1_plane.specs.Place.{from_origin}
use Rattle.av1_plane.specs.Region.{area, IsStored}
use Rattle.av1_plane.specs.declared.three.Three.{Three}
use Rattle.av1_plane.specs.declared.plane.PlaneConfig.{PlaneConfig}
use Rattle.av1_plane.specs.declared.frame.Frame.{Frame}
use Rattle.av1_plane.specs.declared.tile_mut.TileMut.{TileMut}
use Rattle.av1_plane.specs.declared.region_mut.PlaneRegionMut.{PlaneRegionMut}
use Rattle.av1_plane.specs.declared.sampling.ChromaSampling.TheVariants.{Cs400}
use Rattle.av1_block.specs.declared.block.Block.{Block}
use Rattle.av1_block.specs.Block.{default_block}
use Rattle.av1_block.specs.Tables.{TileBlocks, view_entries, view_cols, view_rows}
use Rattle.av1_tiling.specs.Views.{view_frame}
use Rattle.av1_tiling.specs.Frames.{Parameters, layouts, IsInputFor}
use Rattle.av1_cdef.specs.Conditions.{HasIndices, HasViewRoom, HoldsView}

-- numbers below a bound, also past their end
in_depth : (bound : ℕ) (xs : List ℤ) (i : ℕ) → 0 < bound → Below bound xs → InDepth bound (get_or xs i (pos 0))
in_depth bound xs i some h = elim (cases_lt i (length xs)) [
  | inl l ↦ All-get_or (InDepth bound) xs i (pos 0) l h.each
  | inr m ↦ let past = get_or_past xs i (pos 0) m in subst (InDepth bound) (sym past) (grind arith, grind arith)
]

-- a frame of bytes of 8 by 8 without chroma is made for parameters that say so
pub input_made : (f : Frame ℕ) (p : Parameters) → p.width ≡ 8 → p.height ≡ 8 → p.sequence.chroma_sampling ≡ Cs400 → p.sequence.bit_depth ≡ 8
    → layouts (view_frame pos f) ≡ frame_layout 8 8 Cs400 → Below 256 (map pos f.planes.y.samples.items) → IsInputFor p (view_frame pos f)
input_made f p ew eh es ed layout h = record {
  layout = rw (ew, eh, es) layout;
  y_range = λ x y lx ly. rw ed (in_depth 256 (map pos f.planes.y.samples.items) _ (omega arith) h);
  u_range = λ x y lx ly. let none : f.planes.u.cfg.width ≡ 0 = ap (λ (t : Three PlaneConfig). t.u.width) layout in absurd (omega arith);
  v_range = λ x y lx ly. let none : f.planes.v.cfg.width ≡ 0 = ap (λ (t : Three PlaneConfig). t.v.width) layout in absurd (omega arith);
}

-- all samples of a small luma plane have room for its blocks
pub small_room : (cfg : PlaneConfig) (b : TileBlocks) (r : PlaneRegionMut ℕ) → cfg ≡ plane_layout 8 8 0 0 88 88 → area r ≡ from_origin cfg → IsStored r → view_cols b ≡ 2 → view_rows b ≡ 2 → HasViewRoom cfg b r
small_room cfg b r e shown stored ec er = record {
  stored = stored;
  width = rw (shown, e, ec) (omega arith);
  height = rw (shown, e, er) (omega arith);
}

-- blocks of a table whose indices are low
pub indices_made : (b : TileBlocks) (entries : List Block) → view_entries b ≡ entries → All (λ (k : Block). k.cdef_index ≤ 7) entries → HasIndices b
indices_made b entries e h = record {
  each = λ x y lx ly. subst (λ (z : List Block). (get_or z (y * b.step + x) default_block).cdef_index ≤ 7) (sym e) (low (y * b.step + x));
}
  where
    low : (i : ℕ) → (get_or entries i default_block).cdef_index ≤ 7
    low i = elim (cases_lt i (length entries)) [
      | inl l ↦ All-get_or (λ (k : Block). k.cdef_index ≤ 7) entries i default_block l h
      | inr m ↦ rw (get_or_past entries i default_block m) (omega arith)
    ]

-- a number of at most 63 may be put before a list of such numbers
one_more : (x : ℕ) (xs : List ℕ) → x ≤ 63 → All (λ s. s ≤ 63) xs → All (λ s. s ≤ 63) (x ∷ xs)
one_more x xs l h = All-cons (λ s. s ≤ 63) x xs l h

-- a list of one strength of at most 63 and seven of 0 is in range
pub eight_low : (x : ℕ) → x ≤ 63 → All (λ s. s ≤ 63) (x ∷ 0 ∷ 0 ∷ 0 ∷ 0 ∷ 0 ∷ 0 ∷ 0 ∷ [])
eight_low x l =
    one_more x (0 ∷ 0 ∷ 0 ∷ 0 ∷ 0 ∷ 0 ∷ 0 ∷ []) l
    (one_more 0 (0 ∷ 0 ∷ 0 ∷ 0 ∷ 0 ∷ 0 ∷ []) (omega arith)
    (one_more 0 (0 ∷ 0 ∷ 0 ∷ 0 ∷ 0 ∷ []) (omega arith)
    (one_more 0 (0 ∷ 0 ∷ 0 ∷ 0 ∷ []) (omega arith)
    (one_more 0 (0 ∷ 0 ∷ 0 ∷ []) (omega arith)
    (one_more 0 (0 ∷ 0 ∷ []) (omega arith)
    (one_more 0 (0 ∷ []) (omega arith)
    (one_more 0 [] (omega arith)
    (λ k d e. absurd (omega arith)))))))))

-- a tile over a small luma plane, beside which the frame has no chroma, has room for the view
pub small_holds : (f : Frame ℕ) (b : TileBlocks) (t : TileMut ℕ) → layouts (view_frame pos f) ≡ frame_layout 8 8 Cs400 → area t.planes.y ≡ from_origin (plane_layout 8 8 0 0 88 88) → IsStored t.planes.y
    → view_cols b ≡ 2 → view_rows b ≡ 2 → HoldsView f b t
small_holds f b t layout shown stored ec er =
    let luma : f.planes.y.cfg ≡ plane_layout 8 8 0 0 88 88 = ap (λ (k : Three PlaneConfig). k.y) layout in
    let no_u : f.planes.u.cfg.width ≡ 0 = ap (λ (k : Three PlaneConfig). k.u.width) layout in
    let no_v : f.planes.v.cfg.width ≡ 0 = ap (λ (k : Three PlaneConfig). k.v.width) layout in
    record {
      y = λ some. small_room f.planes.y.cfg b t.planes.y luma (rw luma shown) stored ec er;
      u = λ some. absurd (omega arith);
      v = λ some. absurd (omega arith);
    }
