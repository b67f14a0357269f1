-- A stripe that ends below the picture reads the same rows wherever it ends there.
use Rattle.std.proofs.Common.{◌≡◌, ℕ, ℤ, ◌+◌, ◌<◌, ◌≤◌, List, min, ap, arith}
use Rattle.std.proofs.lemmas.Bool.Decides.{nat_tests}
use Rattle.av1_plane.specs.declared.plane.Plane.{Plane}
use Rattle.av1_tiling.specs.Restoration.{across_coeffs, down_coeffs}
use Rattle.av1_lrf.specs.Rows.{Scene, pixel, picture_of, scene_in, nearest_in_stripe, in_stripe, stripe_source}
use Rattle.av1_lrf.specs.Wiener.{Rounding, wiener_across, down, wiener, taps, across_rounding, down_rounding}
use Rattle.av1_lrf.proofs.CellFacts.{across_made, down_made}

-- a row of the picture as both stripes read it
row_stop : {X : Type 0} → (number : X → ℤ) (w h start a b : ℕ) (e d : Plane X) (x n : ℕ) → n < h → min a h ≡ min b h → in_stripe (scene_in number w h start a e d) x n ≡ in_stripe (scene_in number w h start b e d) x n
unfolding in_stripe
row_stop number w h start a b e d x n l same =
    let ends : a ≤ n → a ≡ b = λ m. omega arith in
    let below : a ≤ n → pixel (picture_of number w h d) x (min n (a + 1)) ≡ pixel (picture_of number w h d) x (min n (b + 1)) = λ m. ap (λ (k : ℕ). pixel (picture_of number w h d) x (min n (k + 1))) (ends m) in
    let inside : n < a → n < b = λ m. omega arith in
    let outside : a ≤ n → b ≤ n = λ m. omega arith in
    grind (arith, nat_tests)

-- A stripe reads as it does when its end is cut to the picture.
source_stop : {X : Type 0} → (number : X → ℤ) (w h start a b : ℕ) (e d : Plane X) (x y : ℕ) → 0 < h → min a h ≡ min b h → stripe_source (scene_in number w h start a e d) x y ≡ stripe_source (scene_in number w h start b e d) x y
source_stop number w h start a b e d x y some same = row_stop number w h start a b e d (nearest_in_stripe w x) (nearest_in_stripe h y) (omega arith) same

-- sums of equal samples are equal
across_same : (r : Rounding) (ts : List ℤ) (s t : Scene) (x y : ℕ) → ((i j : ℕ) → stripe_source s i j ≡ stripe_source t i j) → wiener_across r ts s x y ≡ wiener_across r ts t x y
unfolding wiener_across
across_same r ts s t x y h = across_made r ts t x y (λ i. stripe_source s (x + i) y) (λ k l. h (x + k) y)

-- A filter gives equal results on stripes that read equally.
down_same : (ra : Rounding) (ta : List ℤ) (rd : Rounding) (td : List ℤ) (s t : Scene) (x y : ℕ) → ((i j : ℕ) → stripe_source s i j ≡ stripe_source t i j) → down ra ta rd td s x y ≡ down ra ta rd td t x y
unfolding down
down_same ra ta rd td s t x y h = down_made ra ta rd td t x y (λ j. wiener_across ra ta s x (y + j)) (λ k l. across_same ra ta s t x (y + k) h)

-- a sample by the Wiener filter doesn't depend on where a stripe ends below the picture
pub wiener_stop : {X : Type 0} → (number : X → ℤ) (bd : ℕ) (coeffs : List (List ℤ)) (w h start a b : ℕ) (e d : Plane X) (x y : ℕ) → 0 < h → min a h ≡ min b h → wiener bd coeffs (scene_in number w h start a e d) x y ≡ wiener bd coeffs (scene_in number w h start b e d) x y
wiener_stop number bd coeffs w h start a b e d x y some same = down_same (across_rounding bd) (taps (across_coeffs coeffs)) (down_rounding bd) (taps (down_coeffs coeffs)) (scene_in number w h start a e d) (scene_in number w h start b e d) x y (λ i j. source_stop number w h start a b e d i j some same)
