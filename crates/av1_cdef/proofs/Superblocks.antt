-- Blocks of a view, as the definition has them.
use Rattle.std.proofs.Common.{◌≡◌, ℕ, ℤ, pos, ◌+◌, ◌-◌, ◌*◌, ◌^◌, ◌<◌, ◌≤◌, List, get_or, refl, sym, ◌∙◌, ap, arith, inl, inr, Bool, true, false}
use Rattle.std.specs.Prelude.{if◌then◌else◌, nat_lt, ◌==◌}
use Rattle.std.proofs.lemmas.Bool.Decides.{nat_tests}
use Rattle.std.specs.Int.RustNames.{unsigned_abs}
use Rattle.av1_cdef.specs.declared.directions.CdefDirections.{CdefDirections}
use Rattle.av1_cdef.specs.declared.settings.Settings.{Settings}
use Rattle.av1_cdef.specs.Direction.{direction, direction_variance}
use Rattle.av1_cdef.specs.Strength.{primary_of, secondary_of}
use Rattle.av1_cdef.specs.Picture.{sample_at, near, filtered_at}
use Rattle.av1_cdef.specs.Filter.{filtered_near}
use Rattle.av1_cdef.specs.Frame.{Deblocked, Channel, cdef_block_width, cdef_block_height, coeff_shift, luma_block, luma_settings, settings_of, stretched, is_skipped, block_cdef}
use Rattle.av1_cdef.specs.Part.{all_skipped, settings_by, table_direction, table_variance, part_sample, block_sample, copied_at}
use Rattle.av1_cdef.specs.Done.{IsBefore, HasFilteredBlocks}
use Rattle.av1_cdef.specs.Analysis.{is_filtered, HasDirections}
use Rattle.av1_cdef.specs.Superblock.{plan_with, view_cdef}
use Rattle.av1_cdef.proofs.Analyses.{direction_some, variance_some}

-- the settings that a plan gives are the settings of the definition
settings_same : (d : Deblocked) (c : Channel) (index bx by : ℕ)
    → settings_by (plan_with d.header (c.pli == 0) (c.xdec == c.ydec) index) (direction (luma_block d bx by)) (direction_variance (luma_block d bx by))
    ≡ settings_of d c index bx by
settings_same d c index bx by = at (c.pli == 0) (c.xdec == c.ydec)
  where
    at : (a b : Bool) → settings_by (plan_with d.header a b index) (direction (luma_block d bx by)) (direction_variance (luma_block d bx by))
        ≡ (if a then luma_settings d index bx by else record {
          direction = if primary_of (get_or d.header.chroma_strengths index 0) == 0 then 0 else if b then direction (luma_block d bx by) else stretched (direction (luma_block d bx by));
          primary = primary_of (get_or d.header.chroma_strengths index 0) * 2 ^ coeff_shift d.header;
          secondary = secondary_of (get_or d.header.chroma_strengths index 0) * 2 ^ coeff_shift d.header;
          damping = d.header.damping + coeff_shift d.header - 1;
          scale = 2 ^ coeff_shift d.header;
        })
    at true b = refl
    at false true = refl
    at false false = refl

-- whether a block is skipped, by the frame's units and by the view's
skipped_same : (d : Deblocked) (u v : ℕ) → is_skipped d (d.x + u) (d.y + v) ≡ all_skipped d.blocks d.step u v
skipped_same d u v =
    let a : 2 * (d.x + u) - 2 * d.x ≡ 2 * u = omega arith in
    let b : 2 * (d.x + u) + 1 - 2 * d.x ≡ 2 * u + 1 = omega arith in
    let c : 2 * (d.y + v) - 2 * d.y ≡ 2 * v = omega arith in
    let e : 2 * (d.y + v) + 1 - 2 * d.y ≡ 2 * v + 1 = omega arith in
    rw (a, b, c, e) refl

-- a block of the view that is not skipped is filtered
filters : (d : Deblocked) (u v : ℕ) → 2 * u + 1 < d.cols → 2 * v + 1 < d.rows → all_skipped d.blocks d.step u v ≡ false → is_filtered d u v ≡ true
filters d u v lu lv e =
    let a : nat_lt (2 * u + 1) d.cols ≡ true = grind (arith, nat_tests) in
    let b : nat_lt (2 * v + 1) d.rows ≡ true = grind (arith, nat_tests) in
    rw (a, b, e) refl

-- a sample by the table of directions is that of the definition
pub part_cdef : (d : Deblocked) (c : Channel) (index left top u v i j : ℕ) (dirs : CdefDirections)
    → HasDirections d left top dirs → left ≤ u → u < left + 8 → top ≤ v → v < top + 8 → 2 * u + 1 < d.cols → 2 * v + 1 < d.rows
    → part_sample c.picture d.blocks d.step (plan_with d.header (c.pli == 0) (c.xdec == c.ydec) index) dirs d.x d.y (cdef_block_width c) (cdef_block_height c) left top u v i j ≡ view_cdef d c index u v i j
unfolding part_sample view_cdef block_cdef block_sample copied_at filtered_at
part_cdef d c index left top u v i j dirs h lu ru lv rv cu cv = at (all_skipped d.blocks d.step u v) refl
  where
    x : ℕ
    x = cdef_block_width c * (d.x + u)

    y : ℕ
    y = cdef_block_height c * (d.y + v)

    at : (b : Bool) → all_skipped d.blocks d.step u v ≡ b
        → block_sample c.picture (all_skipped d.blocks d.step u v)
        (settings_by (plan_with d.header (c.pli == 0) (c.xdec == c.ydec) index) (table_direction dirs (u - left) (v - top)) (unsigned_abs (table_variance dirs (u - left) (v - top)))) x y i j
        ≡ (if is_skipped d (d.x + u) (d.y + v) then sample_at c.picture (x + j) (y + i)
        else filtered_near (near c.picture (x + j) (y + i)) (settings_of d c index (d.x + u) (d.y + v)) (sample_at c.picture (x + j) (y + i)))
    at true e = let s : is_skipped d (d.x + u) (d.y + v) ≡ true = skipped_same d u v ∙ e in rw (e, s) refl
    at false e =
        let s : is_skipped d (d.x + u) (d.y + v) ≡ false = skipped_same d u v ∙ e in
        let t = filters d u v cu cv e in
        let eu : left + (u - left) ≡ u = omega arith in
        let ev : top + (v - top) ≡ v = omega arith in
        let dir : table_direction dirs (u - left) (v - top) ≡ direction (luma_block d (d.x + u) (d.y + v)) =
        h.dir (u - left) (v - top) (omega arith) (omega arith) ∙ (rw (eu, ev) (sym (direction_some d u v t))) in
        let var : table_variance dirs (u - left) (v - top) ≡ pos (direction_variance (luma_block d (d.x + u) (d.y + v))) =
        h.var (u - left) (v - top) (omega arith) (omega arith) ∙ (rw (eu, ev) (ap pos (sym (variance_some d u v t)))) in
        rw (e, s, dir, var) (ap (λ (z : Settings). filtered_at c.picture z x y i j) (settings_same d c index (d.x + u) (d.y + v)))

-- blocks filtered with equal values are equally filtered
pub blocks_same : (start step w h x0 x1 y0 bx by : ℕ) (value other : ℕ → ℕ → ℕ → ℕ → ℤ) (xs ys : List ℤ) → ((u v i j : ℕ) → IsBefore x0 x1 y0 bx by u v → i < h → j < w → value u v i j ≡ other u v i j)
    → HasFilteredBlocks start step w h x0 x1 y0 bx by value xs ys → HasFilteredBlocks start step w h x0 x1 y0 bx by other xs ys
blocks_same start step w h x0 x1 y0 bx by value other xs ys e b = record {
  long = b.long;
  on = λ u v i j k li lj. b.on u v i j k li lj ∙ e u v i j k li lj;
  off = b.off;
}

-- the blocks of a part lie above its bottom
pub before_bottom : (x0 x1 y0 bottom u v : ℕ) → IsBefore x0 x1 y0 x0 bottom u v → v < bottom
before_bottom x0 x1 y0 bottom u v k = let l = k.left in elim k.order [ inl a ↦ a | inr e ↦ omega arith ]
