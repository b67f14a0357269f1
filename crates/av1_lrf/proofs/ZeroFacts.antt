-- A Wiener filter whose coefficients are 0.
use Rattle.std.proofs.Common.{◌≡◌, ℕ, ℤ, pos, negsuc, ◌+◌, ◌*ℤ◌, ◌<◌, ◌≤◌, ◌^◌, List, [], ◌∷◌, sym, subst, ◌∙◌, ap, arith, inl, inr}
use Rattle.std.proofs.lemmas.Int.{ints}
use Rattle.std.proofs.lemmas.Bool.Decides.{nat_tests}
use Rattle.av1_plane.specs.Numbers.{InDepth}
use Rattle.av1_lrf.specs.Rows.{Scene, pixel, stripe_source, nearest_in_stripe, in_stripe}
use Rattle.av1_lrf.specs.Wiener.{IsDepth, reduced, tapped, taps, across_rounding, down_rounding, wiener_across, down}
use Rattle.av1_lrf.specs.Laws.{ZeroWienerIsSame}

-- the taps of coefficients that are 0
abbrev zero_taps : List ℤ
zero_taps = taps (pos 0 ∷ pos 0 ∷ pos 0 ∷ [])

-- a sum by the taps of coefficients 0 has the middle sample alone
zero_tapped : (f : ℕ → ℤ) → tapped zero_taps f ≡ pos 128 *ℤ f 3
zero_tapped f = omega (arith, ints)

-- inside a stripe the middle sample is the enhanced one
middle : (s : Scene) (x y : ℕ) → x < s.enhanced.width → y < s.enhanced.height → s.stripe.start ≤ y → y < s.stripe.stop → stripe_source s (x + 3) (y + 3) ≡ pixel s.enhanced x y
unfolding in_stripe
middle s x y lx ly l m =
    let col : nearest_in_stripe s.enhanced.width (x + 3) ≡ x = omega arith in
    let row : nearest_in_stripe s.enhanced.height (y + 3) ≡ y = omega arith in
    let inside : in_stripe s x y ≡ pixel s.enhanced x y = grind (arith, nat_tests) in
    ap (λ (i : ℕ). in_stripe s i (nearest_in_stripe s.enhanced.height (y + 3))) col ∙ ap (λ (j : ℕ). in_stripe s x j) row ∙ inside

-- a sample of 8 bits is left as it is by the middle taps across and down
both_8 : (v : ℤ) → InDepth 256 v → reduced (down_rounding 8) (pos 128 *ℤ reduced (across_rounding 8) (pos 128 *ℤ v)) ≡ v
both_8 (pos n) h = grind (arith, ints, nat_tests, h.1)
both_8 (negsuc n) h = grind (arith, ints, h.0)

-- a sample of 10 bits is left as it is by the middle taps across and down
both_10 : (v : ℤ) → InDepth 1024 v → reduced (down_rounding 10) (pos 128 *ℤ reduced (across_rounding 10) (pos 128 *ℤ v)) ≡ v
both_10 (pos n) h = grind (arith, ints, nat_tests, h.1)
both_10 (negsuc n) h = grind (arith, ints, h.0)

-- a sample of 12 bits is left as it is by the middle taps across and down
both_12 : (v : ℤ) → InDepth 4096 v → reduced (down_rounding 12) (pos 128 *ℤ reduced (across_rounding 12) (pos 128 *ℤ v)) ≡ v
both_12 (pos n) h = grind (arith, ints, nat_tests, h.1)
both_12 (negsuc n) h = grind (arith, ints, h.0)

-- a sample of any depth is left as it is by the middle taps across and down
both : (bd : ℕ) (v : ℤ) → IsDepth bd → InDepth (2 ^ bd) v → reduced (down_rounding bd) (pos 128 *ℤ reduced (across_rounding bd) (pos 128 *ℤ v)) ≡ v
both bd v h i = elim h [
  | inl e ↦ at 8 e (λ j. both_8 v j)
  | inr k ↦ elim k [ inl e ↦ at 10 e (λ j. both_10 v j) | inr e ↦ at 12 e (λ j. both_12 v j) ]
]
  where
    at : (d : ℕ) → bd ≡ d → (InDepth (2 ^ d) v → reduced (down_rounding d) (pos 128 *ℤ reduced (across_rounding d) (pos 128 *ℤ v)) ≡ v) → reduced (down_rounding bd) (pos 128 *ℤ reduced (across_rounding bd) (pos 128 *ℤ v)) ≡ v
    at d e f = subst (λ (b : ℕ). reduced (down_rounding b) (pos 128 *ℤ reduced (across_rounding b) (pos 128 *ℤ v)) ≡ v) (sym e) (f (subst (λ (b : ℕ). InDepth (2 ^ b) v) e i))

-- a Wiener filter with coefficients 0 leaves each sample as it is
pub zero_wiener_is_same : ZeroWienerIsSame
unfolding down wiener_across
zero_wiener_is_same bd s x y h lx ly l m r =
    ap (reduced (down_rounding bd)) (zero_tapped (λ j. wiener_across (across_rounding bd) zero_taps s x (y + j)))
    ∙ ap (λ (v : ℤ). reduced (down_rounding bd) (pos 128 *ℤ reduced (across_rounding bd) v)) (zero_tapped (λ i. stripe_source s (x + i) (y + 3)))
    ∙ ap (λ (v : ℤ). reduced (down_rounding bd) (pos 128 *ℤ reduced (across_rounding bd) (pos 128 *ℤ v))) (middle s x y lx ly l m)
    ∙ both bd (pixel s.enhanced x y) h r
