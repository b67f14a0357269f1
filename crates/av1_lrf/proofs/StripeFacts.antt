-- Which row a stripe reads.
use Rattle.std.proofs.Common.{◌≡◌, ℕ, ℤ, ◌+◌, ◌-◌, ◌<◌, ◌≤◌, min, max, ap, arith}
use Rattle.std.proofs.lemmas.Bool.Decides.{nat_tests}
use Rattle.std.specs.Prelude.{List}
use Rattle.av1_plane.specs.declared.plane.Plane.{Plane}
use Rattle.av1_lrf.specs.declared.rows.Extent.{Extent}
use Rattle.av1_lrf.specs.Rows.{Scene, pixel, nearest_in_stripe, in_stripe}
use Rattle.av1_lrf.specs.Padded.{visible_row, stripe_row}

-- a sample of a row above the stripe is read from the deblocked picture
pub above_row : (s : Scene) (x y at : ℕ) (v : ℤ) → v ≡ pixel s.deblocked x at → y < s.stripe.start → at ≡ max y (s.stripe.start - 2) → v ≡ in_stripe s x y
unfolding in_stripe
above_row s x y at v e l h =
    let same : pixel s.deblocked x at ≡ pixel s.deblocked x (max y (s.stripe.start - 2)) = ap (pixel s.deblocked x) h in
    grind (arith, nat_tests)

-- a sample of a row of the stripe is read from the enhanced picture
pub inside_row : (s : Scene) (x y at : ℕ) (v : ℤ) → v ≡ pixel s.enhanced x at → s.stripe.start ≤ y → y < s.stripe.stop → at ≡ y → v ≡ in_stripe s x y
unfolding in_stripe
inside_row s x y at v e l m h =
    let same : pixel s.enhanced x at ≡ pixel s.enhanced x y = ap (pixel s.enhanced x) h in
    grind (arith, nat_tests)

-- a sample of a row below the stripe is read from the deblocked picture
pub below_row : (s : Scene) (x y at : ℕ) (v : ℤ) → v ≡ pixel s.deblocked x at → s.stripe.start ≤ y → s.stripe.stop ≤ y → at ≡ min y (s.stripe.stop + 1) → v ≡ in_stripe s x y
unfolding in_stripe
below_row s x y at v e l m h =
    let same : pixel s.deblocked x at ≡ pixel s.deblocked x (min y (s.stripe.stop + 1)) = ap (pixel s.deblocked x) h in
    grind (arith, nat_tests)

-- a row above a stripe is read from the deblocked plane
pub above_list : {X : Type 0} → (e d : Plane X) (x : Extent) (y at : ℕ) (r : List X) → r ≡ visible_row d x.width at → nearest_in_stripe x.height y < x.start → at ≡ max (nearest_in_stripe x.height y) (x.start - 2) → r ≡ stripe_row e d x y
unfolding stripe_row
above_list e d x y at r h l m =
    let same : visible_row d x.width at ≡ visible_row d x.width (max (nearest_in_stripe x.height y) (x.start - 2)) = ap (λ (k : ℕ). visible_row d x.width k) m in
    grind (arith, nat_tests)

-- a row of a stripe is read from the enhanced plane
pub inside_list : {X : Type 0} → (e d : Plane X) (x : Extent) (y at : ℕ) (r : List X) → r ≡ visible_row e x.width at → x.start ≤ nearest_in_stripe x.height y → nearest_in_stripe x.height y < x.stop → at ≡ nearest_in_stripe x.height y → r ≡ stripe_row e d x y
unfolding stripe_row
inside_list e d x y at r h l n m =
    let same : visible_row e x.width at ≡ visible_row e x.width (nearest_in_stripe x.height y) = ap (λ (k : ℕ). visible_row e x.width k) m in
    grind (arith, nat_tests)

-- a row below a stripe is read from the deblocked plane
pub below_list : {X : Type 0} → (e d : Plane X) (x : Extent) (y at : ℕ) (r : List X) → r ≡ visible_row d x.width at → x.start ≤ nearest_in_stripe x.height y → x.stop ≤ nearest_in_stripe x.height y → at ≡ min (nearest_in_stripe x.height y) (x.stop + 1) → r ≡ stripe_row e d x y
unfolding stripe_row
below_list e d x y at r h l n m =
    let same : visible_row d x.width at ≡ visible_row d x.width (min (nearest_in_stripe x.height y) (x.stop + 1)) = ap (λ (k : ℕ). visible_row d x.width k) m in
    grind (arith, nat_tests)
