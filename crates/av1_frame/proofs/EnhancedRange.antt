-- CDEF keeps samples in depth: each filtered sample lies between samples of the deblocked frame.
use Rattle.std.proofs.Common.{◌≡◌, ℕ, ℤ, pos, zero, suc, ◌+◌, ◌-◌, ◌*◌, ◌/◌, ◌%◌, ◌^◌, ◌<◌, ◌≤◌, inl, inr, List, [], ◌∷◌, length, get_or, Bool, true, false, refl, sym, ap, ◌∙◌, subst, arith}
use Rattle.std.specs.Prelude.{Option, Some, None, nat_le, nat_lt, ◌&&◌, if◌then◌else◌}
use Rattle.std.specs.Int.{int_min, int_max}
use Rattle.std.proofs.lemmas.Bool.{cases_lt}
use Rattle.std.proofs.lemmas.Bool.Decides.{nat_tests}
use Rattle.std.proofs.lemmas.Int.{ints}
use Rattle.std.proofs.lemmas.List.{get_or_past}
use Rattle.std.proofs.lemmas.Nat.{div-mul-add, mod-mul-add, pow_pos}
use Rattle.av1_plane.specs.declared.three.Three.{Three}
use Rattle.av1_plane.specs.declared.plane.PlaneConfig.{PlaneConfig}
use Rattle.av1_plane.specs.Numbers.{InDepth}
use Rattle.av1_block.specs.declared.block.Block.{Block}
use Rattle.av1_tiling.specs.Views.{PlaneView}
use Rattle.av1_tiling.specs.Frames.{Parameters, IsInRange, IsInputFor}
use Rattle.av1_cdef.specs.declared.settings.Settings.{Settings}
use Rattle.av1_cdef.specs.Picture.{sample_at, near}
use Rattle.av1_cdef.specs.Filter.{Tap, taps_at, taps_of, least_with, greatest_with, least_of_taps, greatest_of_taps, filtered_near}
use Rattle.av1_cdef.specs.Frame.{Deblocked, is_skipped, settings_of, index_of, block_cdef, cdef}
use Rattle.av1_frame.proofs.Enhancing.{cdef_cfg}
use Rattle.av1_cdef.specs.Whole.{view_picture, whole_frame, in_picture, with_picture, cdef_plane, cdef_frame}

-- One sample.

-- a sample, if the plane has it, is in depth
abbrev IsDeepTap : ℕ → Option ℤ → Type 0
IsDeepTap bound None = Unit {0}
IsDeepTap bound (Some v) = InDepth bound v

-- the samples of all taps are below a bound
abbrev AreDeepTaps : ℕ → List Tap → Type 0
AreDeepTaps bound [] = Unit {0}
AreDeepTaps bound (t ∷ ts) = IsDeepTap bound t.sample × AreDeepTaps bound ts

-- the lesser of two numbers in depth is in depth
least_deep : (bound : ℕ) (a b : ℤ) → InDepth bound a → InDepth bound b → InDepth bound (int_min a b)
least_deep bound a b ha hb = let a0 = ha.0 in let a1 = ha.1 in let b0 = hb.0 in let b1 = hb.1 in (grind (arith, ints), grind (arith, ints))

-- the greater of two numbers in depth is in depth
greatest_deep : (bound : ℕ) (a b : ℤ) → InDepth bound a → InDepth bound b → InDepth bound (int_max a b)
greatest_deep bound a b ha hb = let a0 = ha.0 in let a1 = ha.1 in let b0 = hb.0 in let b1 = hb.1 in (grind (arith, ints), grind (arith, ints))

-- a number that is kept between two numbers in depth is in depth
between_deep : (bound : ℕ) (z l g : ℤ) → InDepth bound l → InDepth bound g → InDepth bound (int_min (int_max z l) g)
between_deep bound z l g hl hg = let l0 = hl.0 in let l1 = hl.1 in let g0 = hg.0 in let g1 = hg.1 in (grind (arith, ints), grind (arith, ints))

-- the least over taps in depth is in depth
least_taps : (bound : ℕ) (least : ℤ) (ts : List Tap) → InDepth bound least → AreDeepTaps bound ts → InDepth bound (least_of_taps least ts)
least_taps bound least [] h each = h
least_taps bound least (t ∷ ts) h each = least_taps bound (least_with least t.sample) ts (with_one t.sample each.0) each.1
  where
    with_one : (o : Option ℤ) → IsDeepTap bound o → InDepth bound (least_with least o)
    with_one None d = h
    with_one (Some v) d = least_deep bound least v h d

-- the greatest over taps in depth is in depth
greatest_taps : (bound : ℕ) (greatest : ℤ) (ts : List Tap) → InDepth bound greatest → AreDeepTaps bound ts → InDepth bound (greatest_of_taps greatest ts)
greatest_taps bound greatest [] h each = h
greatest_taps bound greatest (t ∷ ts) h each = greatest_taps bound (greatest_with greatest t.sample) ts (with_one t.sample each.0) each.1
  where
    with_one : (o : Option ℤ) → IsDeepTap bound o → InDepth bound (greatest_with greatest o)
    with_one None d = h
    with_one (Some v) d = greatest_deep bound greatest v h d

module _ (bound : ℕ) (around : ℕ → ℕ → Option ℤ) (deep : (r c : ℕ) → IsDeepTap bound (around r c)) (s : Settings) where
  -- the taps at one distance have samples below the bound
  at_deep : (k : ℕ) (rest : List Tap) → AreDeepTaps bound rest → AreDeepTaps bound (taps_at around s k rest)
  at_deep k rest h = (deep _ _, (deep _ _, (deep _ _, (deep _ _, (deep _ _, (deep _ _, h))))))

  -- a filtered sample is in depth
  near_deep : (x : ℤ) → InDepth bound x → InDepth bound (filtered_near around s x)
  near_deep x h =
      let taps = at_deep 0 (taps_at around s 1 []) (at_deep 1 [] tt) in
      between_deep bound _ (least_of_taps x (taps_of around s)) (greatest_of_taps x (taps_of around s)) (least_taps bound x (taps_of around s) h taps) (greatest_taps bound x (taps_of around s) h taps)

-- A plane.

module _ (bound : ℕ) (p : PlaneView) (range : IsInRange bound p) where
  -- a sample of the picture is in depth
  picture_deep : (x y : ℕ) → x < p.cfg.width → y < p.cfg.height → InDepth bound (sample_at (view_picture p) x y)
  picture_deep x y lx ly =
      let place : (p.cfg.yorigin + y) * p.cfg.stride + (p.cfg.xorigin + x) ≡ p.cfg.yorigin * p.cfg.stride + p.cfg.xorigin + y * p.cfg.stride + x = grind arith in
      subst (λ (k : ℕ). InDepth bound (get_or p.samples k (pos 0))) place (range x y lx ly)

  -- a sample near another one is below the bound
  around_deep : (x y r c : ℕ) → IsDeepTap bound (near (view_picture p) x y r c)
  around_deep x y r c = by (nat_le 2 (x + c) && nat_lt (x + c) (p.cfg.width + 2) && (nat_le 2 (y + r) && nat_lt (y + r) (p.cfg.height + 2))) refl
    where
      by : (b : Bool) → (nat_le 2 (x + c) && nat_lt (x + c) (p.cfg.width + 2) && (nat_le 2 (y + r) && nat_lt (y + r) (p.cfg.height + 2))) ≡ b
          → IsDeepTap bound (if b then Some (sample_at (view_picture p) (x + c - 2) (y + r - 2)) else None)
      by true e =
          let left : 2 ≤ x + c = grind (arith, nat_tests, e) in
          let right : x + c < p.cfg.width + 2 = grind (arith, nat_tests, e) in
          let top : 2 ≤ y + r = grind (arith, nat_tests, e) in
          let bottom : y + r < p.cfg.height + 2 = grind (arith, nat_tests, e) in
          picture_deep (x + c - 2) (y + r - 2) (omega arith) (omega arith)
      by false e = tt

  -- a sample after CDEF is in depth
  cdef_deep : (d : Deblocked) (pli x y : ℕ) → x < p.cfg.width → y < p.cfg.height
      → InDepth bound (cdef d (record { pli = pli; xdec = p.cfg.xdec; ydec = p.cfg.ydec; picture = view_picture p }) x y)
  unfolding cdef block_cdef
  cdef_deep d pli x y lx ly = by (is_skipped d (x / (8 / 2 ^ p.cfg.xdec)) (y / (8 / 2 ^ p.cfg.ydec)))
    where
      here : InDepth bound (sample_at (view_picture p) x y)
      here = picture_deep x y lx ly

      by : (b : Bool) → InDepth bound (if b then sample_at (view_picture p) x y
          else filtered_near (near (view_picture p) x y) (settings_of d (record { pli = pli; xdec = p.cfg.xdec; ydec = p.cfg.ydec; picture = view_picture p }) (index_of d (x / (8 / 2 ^ p.cfg.xdec)) (y / (8 / 2 ^ p.cfg.ydec))) (x / (8 / 2 ^ p.cfg.xdec)) (y / (8 / 2 ^ p.cfg.ydec))) (sample_at (view_picture p) x y))
      by true = here
      by false = near_deep bound (near (view_picture p) x y) (around_deep x y) (settings_of d (record { pli = pli; xdec = p.cfg.xdec; ydec = p.cfg.ydec; picture = view_picture p }) (index_of d (x / (8 / 2 ^ p.cfg.xdec)) (y / (8 / 2 ^ p.cfg.ydec))) (x / (8 / 2 ^ p.cfg.xdec)) (y / (8 / 2 ^ p.cfg.ydec))) (sample_at (view_picture p) x y) here

-- the sample that stands at place n of a list with a picture in it, where `old` stood
abbrev picked : PlaneConfig → (ℕ → ℕ → ℤ) → ℕ → ℤ → ℤ
picked cfg value n old = if in_picture cfg n then value (n % cfg.stride - cfg.xorigin) (n / cfg.stride - cfg.yorigin) else old

-- an entry of a list with a picture in it is the picture's or the old one
one_of : (cfg : PlaneConfig) (value : ℕ → ℕ → ℤ) (k : ℕ) (xs : List ℤ) (i : ℕ) → i < length xs → get_or (with_picture cfg value k xs) i (pos 0) ≡ picked cfg value (k + i) (get_or xs i (pos 0))
unfolding with_picture
one_of cfg value k [] i l = absurd (omega arith)
one_of cfg value k (x ∷ xs) zero l = let e : k + 0 ≡ k = omega arith in ap (λ (n : ℕ). picked cfg value n x) (sym e)
one_of cfg value k (x ∷ xs) (suc i) l =
    let e : suc k + i ≡ k + suc i = omega arith in
    one_of cfg value (suc k) xs i (omega arith) ∙ ap (λ (n : ℕ). picked cfg value n (get_or xs i (pos 0))) e

-- a list with a picture in it is as long as before
long_picture : (cfg : PlaneConfig) (value : ℕ → ℕ → ℤ) (k : ℕ) (xs : List ℤ) → length (with_picture cfg value k xs) ≡ length xs
unfolding with_picture
long_picture cfg value k [] = refl
long_picture cfg value k (x ∷ xs) = ap suc (long_picture cfg value (suc k) xs)

-- a plane into which a picture in depth is put is in depth
with_deep : (bound : ℕ) (p : PlaneView) (value : ℕ → ℕ → ℤ) → p.cfg.xorigin + p.cfg.width ≤ p.cfg.stride → 0 < bound
    → ((x y : ℕ) → x < p.cfg.width → y < p.cfg.height → InDepth bound (value x y)) → IsInRange bound (record { cfg = p.cfg; samples = with_picture p.cfg value 0 p.samples })
with_deep bound p value wide some deep x y lx ly =
    let stride = p.cfg.stride in
    let n = (p.cfg.yorigin + y) * stride + (p.cfg.xorigin + x) in
    elim (cases_lt n (length p.samples)) [
      | inl below ↦
          let column : n % stride ≡ p.cfg.xorigin + x = mod-mul-add (p.cfg.yorigin + y) stride (p.cfg.xorigin + x) (omega arith) in
          let row : n / stride ≡ p.cfg.yorigin + y = div-mul-add (p.cfg.yorigin + y) stride (p.cfg.xorigin + x) (omega arith) in
          let inside : in_picture p.cfg n ≡ true = rw (column, row) (grind (arith, nat_tests)) in
          let c : n % stride - p.cfg.xorigin ≡ x = omega arith in
          let r : n / stride - p.cfg.yorigin ≡ y = omega arith in
          let first : 0 + n ≡ n = omega arith in
          let read : get_or (with_picture p.cfg value 0 p.samples) n (pos 0) ≡ value x y =
          one_of p.cfg value 0 p.samples n below
          ∙ (ap (λ (k : ℕ). picked p.cfg value k (get_or p.samples n (pos 0))) first
          ∙ ((λ i. if inside i then value (n % stride - p.cfg.xorigin) (n / stride - p.cfg.yorigin) else get_or p.samples n (pos 0)) ∙ (λ i. value (c i) (r i)))) in
          subst (InDepth bound) (sym read) (deep x y lx ly)
      | inr past ↦
          let long = long_picture p.cfg value 0 p.samples in
          let none : get_or (with_picture p.cfg value 0 p.samples) n (pos 0) ≡ pos 0 = get_or_past (with_picture p.cfg value 0 p.samples) n (pos 0) (omega arith) in
          subst (InDepth bound) (sym none) (omega (arith, ints), omega (arith, ints))
    ]

-- a plane after CDEF is in depth
cdef_range : (depth : ℕ) (d : Deblocked) (pli : ℕ) (p : PlaneView) → p.cfg.xorigin + p.cfg.width ≤ p.cfg.stride → IsInRange (2 ^ depth) p → IsInRange (2 ^ depth) (cdef_plane d pli p)
unfolding cdef_plane
cdef_range depth d pli p wide range =
    with_deep (2 ^ depth) p (cdef d (record { pli = pli; xdec = p.cfg.xdec; ydec = p.cfg.ydec; picture = view_picture p })) wide (pow_pos depth) (cdef_deep (2 ^ depth) p range d pli)

-- a frame after CDEF is an input for the parameters of the frame
pub cdef_input : (p : Parameters) (blocks : List Block) (f : Three PlaneView) → f.y.cfg.xorigin + f.y.cfg.width ≤ f.y.cfg.stride → f.u.cfg.xorigin + f.u.cfg.width ≤ f.u.cfg.stride
    → f.v.cfg.xorigin + f.v.cfg.width ≤ f.v.cfg.stride → IsInputFor p f → IsInputFor p (cdef_frame p blocks f)
cdef_input p blocks f wide_y wide_u wide_v i =
    let d = whole_frame p blocks (view_picture f.y) in
    record {
      layout = (λ j. record { y = cdef_cfg d 0 f.y j; u = cdef_cfg d 1 f.u j; v = cdef_cfg d 2 f.v j }) ∙ i.layout;
      y_range = cdef_range p.sequence.bit_depth d 0 f.y wide_y i.y_range;
      u_range = cdef_range p.sequence.bit_depth d 1 f.u wide_u i.u_range;
      v_range = cdef_range p.sequence.bit_depth d 2 f.v wide_v i.v_range;
    }
