-- Directions of parts.
use Rattle.std.proofs.Common.{◌≡◌, ◌≢◌, ℕ, pos, ◌+◌, ◌*◌, ◌^◌, ◌<◌, ◌≤◌, List, [], ◌∷◌, ◌++◌, length, length-append, get_or, subst, refl, sym, ◌∙◌, ap, arith, inl, inr, ◌⊎◌, Bool, true, false, eq-eqb}
use Rattle.std.specs.Prelude.{if◌then◌else◌, nat_lt, ◌&&◌, ◌==◌, not}
use Rattle.av1_block.specs.declared.block.Block.{Block}
use Rattle.av1_plane.specs.Numbers.{InDepth}
use Rattle.av1_cdef.specs.declared.directions.CdefDirections.{CdefDirections}
use Rattle.av1_cdef.specs.Direction.{IsDeepBlock, direction, direction_variance}
use Rattle.av1_cdef.specs.Picture.{CdefPicture, IsHeld}
use Rattle.av1_cdef.specs.Frame.{Deblocked, luma_block}
use Rattle.av1_cdef.specs.Part.{AreDirections, table_direction, table_variance, all_skipped}
use Rattle.av1_cdef.specs.Analysis.{IsDeep, is_filtered, block_direction, block_variance, HasDirectionColumns, HasDirections, HasRange, no_directions}
use Rattle.std.proofs.Math.Nat.{mul-le-mul_right}
use Rattle.std.proofs.Math.Seq.{get_or-append_seam}
use Rattle.std.proofs.lemmas.List.{get_or_append_left}
use Rattle.std.proofs.lemmas.Bool.{cases_lt, ne_eqb}
use Rattle.std.proofs.lemmas.Bool.Decides.{nat_tests}

-- a plane's samples lie in its list
pub plane_room : (size yo xo stride alloc w h : ℕ) → size ≡ stride * alloc → yo + h ≤ alloc → xo + w ≤ stride → (yo * stride + xo) + h * stride + w ≤ size + stride
plane_room size yo xo stride alloc w h e a b =
    let rows : (yo + h) * stride ≤ alloc * stride = mul-le-mul_right stride a in
    let split : (yo + h) * stride ≡ yo * stride + h * stride = grind arith in
    let same : stride * alloc ≡ alloc * stride = grind arith in
    omega arith

-- the origin of a plane lies in its list
pub origin_room : (size yo xo stride alloc w h : ℕ) → size ≡ stride * alloc → yo + h ≤ alloc → xo + w ≤ stride → 0 < h → yo * stride + xo ≤ size
origin_room size yo xo stride alloc w h e a b c =
    let rows : (yo + 1) * stride ≤ alloc * stride = mul-le-mul_right stride (omega arith) in
    let split : (yo + 1) * stride ≡ yo * stride + stride = grind arith in
    let same : stride * alloc ≡ alloc * stride = grind arith in
    omega arith

-- the rows of a block lie in the list
pub block_room : (n o step w h bx by : ℕ) → o + h * step + w ≤ n + step → 8 * bx + 8 ≤ w → 8 * by + 8 ≤ h → o + 8 * by * step + 8 * bx + 7 * step + 8 ≤ n
block_room n o step w h bx by e a b =
    let rows : (8 * by + 8) * step ≤ h * step = mul-le-mul_right step b in
    let split : (8 * by + 8) * step ≡ 8 * by * step + 7 * step + step = grind arith in
    omega arith

-- the samples of a block are as deep as the plane's
pub block_deep : (bound n : ℕ) (p : CdefPicture) (bx by : ℕ) → IsHeld bound n p → 8 * bx + 8 ≤ p.width → 8 * by + 8 ≤ p.height → IsDeepBlock bound p.samples (p.origin + 8 * by * p.step + 8 * bx) p.step
block_deep bound n p bx by h a b = record {
  each = λ i j li lj.
      let split : p.origin + (8 * by + i) * p.step + (8 * bx + j) ≡ p.origin + 8 * by * p.step + 8 * bx + i * p.step + j = grind arith in
      subst (λ k. InDepth bound (get_or p.samples k (pos 0))) split (h.depth (8 * bx + j) (8 * by + i) (omega arith) (omega arith));
}

-- the list of a source holds its picture
pub source_held : (bound n : ℕ) (p : CdefPicture) → p.step < 2 ^ 32 → p.width ≤ p.step → p.origin + p.height * p.step + p.width ≤ n + p.step → IsDeep bound p → IsHeld bound n p
source_held bound n p a b c d = record { narrow = a; wide = b; inside = c; depth = d.each }

-- Blocks that are filtered, and others.

-- a block that is filtered lies in the view
pub filtered_inside : (blocks : List Block) (step cols rows u v : ℕ)
    → (nat_lt (2 * u + 1) cols && (nat_lt (2 * v + 1) rows && not (all_skipped blocks step u v))) ≡ true → (2 * u + 1 < cols) × (2 * v + 1 < rows)
filtered_inside blocks step cols rows u v e = at (all_skipped blocks step u v) e
  where
    at : (b : Bool) → (nat_lt (2 * u + 1) cols && (nat_lt (2 * v + 1) rows && not b)) ≡ true → (2 * u + 1 < cols) × (2 * v + 1 < rows)
    at b e = (grind (arith, nat_tests, e), grind (arith, nat_tests, e))

-- the direction of a filtered block is the direction of its luma
pub direction_some : (d : Deblocked) (u v : ℕ) → is_filtered d u v ≡ true → direction (luma_block d (d.x + u) (d.y + v)) ≡ block_direction d u v
unfolding block_direction
direction_some d u v e = rw e refl

-- the direction of a block that isn't filtered is 0
pub direction_none : (d : Deblocked) (u v : ℕ) → is_filtered d u v ≡ false → 0 ≡ block_direction d u v
unfolding block_direction
direction_none d u v e = rw e refl

-- the variance of a filtered block is the variance of its luma
pub variance_some : (d : Deblocked) (u v : ℕ) → is_filtered d u v ≡ true → direction_variance (luma_block d (d.x + u) (d.y + v)) ≡ block_variance d u v
unfolding block_variance
variance_some d u v e = rw e refl

-- the variance of a block that isn't filtered is 0
pub variance_none : (d : Deblocked) (u v : ℕ) → is_filtered d u v ≡ false → 0 ≡ block_variance d u v
unfolding block_variance
variance_none d u v e = rw e refl

-- Column by column.

-- at first no block is done
pub columns_none : (d : Deblocked) (left top : ℕ) (t : CdefDirections) → AreDirections t → HasDirectionColumns d left top 0 0 t
columns_none d left top t h = record {
  shape = h;
  before_dir = λ a b la lb. absurd (omega arith);
  before_var = λ a b la lb. absurd (omega arith);
  dir = λ b lb. absurd (omega arith);
  var = λ b lb. absurd (omega arith);
}

-- past the last block of a column the next column begins
pub columns_next : (d : Deblocked) (left top i : ℕ) (t : CdefDirections) → HasDirectionColumns d left top i 8 t → HasDirectionColumns d left top (i + 1) 0 t
columns_next d left top i t h = record {
  shape = h.shape;
  before_dir = λ a b la lb. elim (cases_lt a i) [ inl l ↦ h.before_dir a b l lb | inr m ↦ let e : a ≡ i = omega arith in rw e (h.dir b lb) ];
  before_var = λ a b la lb. elim (cases_lt a i) [ inl l ↦ h.before_var a b l lb | inr m ↦ let e : a ≡ i = omega arith in rw e (h.var b lb) ];
  dir = λ b lb. absurd (omega arith);
  var = λ b lb. absurd (omega arith);
}

-- past the last column all blocks are done
pub columns_done : (d : Deblocked) (left top : ℕ) (t : CdefDirections) → HasDirectionColumns d left top 8 0 t → HasDirections d left top t
columns_done d left top t h = record { shape = h.shape; dir = h.before_dir; var = h.before_var }

-- Superblock by superblock.

-- a list of no superblocks has the directions of none
pub range_none : (d : Deblocked) (w n : ℕ) → n ≡ 0 → HasRange d w n []
range_none d w n e = record { long = sym e; each = λ x y lx l. absurd (omega arith) }

-- one superblock more adds its directions to the list
pub range_more : (d : Deblocked) (w x y : ℕ) (ts : List CdefDirections) (t : CdefDirections) → x < w → HasRange d w (y * w + x) ts → HasDirections d (8 * x) (8 * y) t
    → HasRange d w (y * w + (x + 1)) (ts ++ t ∷ [])
range_more d w x y ts t lx h here = record {
  long = length-append ts (t ∷ []) ∙ (let long = h.long in omega arith);
  each = λ a b la l. elim (cases_lt (b * w + a) (y * w + x)) [
    | inl less ↦
        let old : get_or (ts ++ t ∷ []) (b * w + a) no_directions ≡ get_or ts (b * w + a) no_directions = get_or_append_left ts (t ∷ []) no_directions (b * w + a) (let long = h.long in omega arith) in
        rw old (h.each a b la less)
    | inr more ↦
        let same : b * w + a ≡ y * w + x = omega arith in
        let at = one_place w a b x y la lx same in
        let last : b * w + a ≡ length ts = let long = h.long in omega arith in
        let new : get_or (ts ++ t ∷ []) (b * w + a) no_directions ≡ t = rw last (get_or-append_seam ts t [] no_directions) in
        rw (new, at.0, at.1) here
  ];
}
  where
    one_place : (w a b x y : ℕ) → a < w → x < w → b * w + a ≡ y * w + x → (a ≡ x) × (b ≡ y)
    one_place w a b x y la lx e = elim (cases_lt b y) [
      | inl less ↦ let r : (b + 1) * w ≤ y * w = mul-le-mul_right w (omega arith) in let s : (b + 1) * w ≡ b * w + w = grind arith in absurd (omega arith)
      | inr m ↦ elim (cases_lt y b) [
        | inl less ↦ let r : (y + 1) * w ≤ b * w = mul-le-mul_right w (omega arith) in let s : (y + 1) * w ≡ y * w + w = grind arith in absurd (omega arith)
        | inr k ↦ let eb : b ≡ y = omega arith in let p : b * w ≡ y * w = ap (λ n. n * w) eb in (omega arith, eb)
      ]
    ]

-- a list of directions belongs to every number that is equal to its number of superblocks
pub range_same : (d : Deblocked) (w n m : ℕ) (ts : List CdefDirections) → n ≡ m → HasRange d w n ts → HasRange d w m ts
range_same d w n m ts e h = rw e at h

-- an entry that wasn't written is as it was
put_other : {A : Type 0} → (X : A) (a b i j : ℕ) (v w : A) → (a ≢ i) ⊎ (b ≢ j) → X ≡ (if a == i && b == j then v else w) → X ≡ w
put_other X a b i j v w (inl n) e = let t : (a == i) ≡ false = ne_eqb a i n in e ∙ (rw t refl)
put_other X a b i j v w (inr n) e = let t : (b == j) ≡ false = ne_eqb b j n in e ∙ (rw t (at (a == i)))
  where
    at : (c : Bool) → (if c && false then v else w) ≡ w
    at true = refl
    at false = refl

-- an entry that was written is the new one
put_here : {A : Type 0} → (X : A) (i j : ℕ) (v w : A) → X ≡ (if i == i && j == j then v else w) → X ≡ v
put_here X i j v w e = let t : (i == i) ≡ true = eq-eqb i i refl in let s : (j == j) ≡ true = eq-eqb j j refl in e ∙ (rw (t, s) refl)

-- one block more of a column is done
pub columns_more : (d : Deblocked) (left top i j : ℕ) (s t : CdefDirections) (dir var : ℕ) → i < 8 → j < 8 → HasDirectionColumns d left top i j s → AreDirections t
    → dir ≡ block_direction d (left + i) (top + j) → var ≡ block_variance d (left + i) (top + j)
    → ((a b : ℕ) → a < 8 → b < 8 → table_direction t a b ≡ (if a == i && b == j then dir else table_direction s a b))
    → ((a b : ℕ) → a < 8 → b < 8 → table_variance t a b ≡ (if a == i && b == j then pos var else table_variance s a b))
    → HasDirectionColumns d left top i (j + 1) t
columns_more d left top i j s t dir var li lj h shape ed ev pd pv = record {
  shape = shape;
  before_dir = λ a b la lb. put_other _ a b i j dir (table_direction s a b) (inl (λ e. omega arith)) (pd a b (omega arith) lb) ∙ h.before_dir a b la lb;
  before_var = λ a b la lb. put_other _ a b i j (pos var) (table_variance s a b) (inl (λ e. omega arith)) (pv a b (omega arith) lb) ∙ h.before_var a b la lb;
  dir = λ b lb. elim (cases_lt b j) [
    | inl l ↦ put_other _ i b i j dir (table_direction s i b) (inr (λ e. omega arith)) (pd i b li (omega arith)) ∙ h.dir b l
    | inr m ↦ let e : b ≡ j = omega arith in rw e (put_here _ i j dir (table_direction s i j) (pd i j li lj) ∙ ed)
  ];
  var = λ b lb. elim (cases_lt b j) [
    | inl l ↦ put_other _ i b i j (pos var) (table_variance s i b) (inr (λ e. omega arith)) (pv i b li (omega arith)) ∙ h.var b l
    | inr m ↦ let e : b ≡ j = omega arith in rw e (put_here _ i j (pos var) (table_variance s i j) (pv i j li lj) ∙ ap pos ev)
  ];
}
