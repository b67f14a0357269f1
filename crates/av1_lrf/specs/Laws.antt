-- Laws on the sums over squares and on the filters.
use Rattle.std.specs.Prelude.{ℕ, ℤ, pos, ◌+◌, ◌-◌, ◌*◌, ◌%◌, ◌^◌, ◌<◌, ◌≤◌, ◌≡◌, ◌⊎◌, List, [], ◌∷◌}
use Rattle.av1_lrf.specs.Rows.{Scene, pixel}
use Rattle.av1_lrf.specs.Wiener.{wiener, IsDepth}
use Rattle.av1_lrf.specs.Guided.{Table, box, squared, box_side, count, strength, variation, weight, one_by}
use Rattle.av1_lrf.specs.Integral.{corner_sum}
use Rattle.av1_plane.specs.Numbers.{InDepth}

-- the samples of a square of side n are below 2 ^ bd
abbrev pub SquareBelow : ℕ → ℕ → Table → ℕ → ℕ → Type 0
SquareBelow bd n f x y = (i j : ℕ) → i < n → j < n → f (x + i) (y + j) < 2 ^ bd

-- 32 bits hold each number that is computed for a square with sides of 2 * radius + 1
pub record Fits32 (bd radius set : ℕ) (f : Table) (x y : ℕ) : Type 0 where
  pub product : variation bd (count radius) (box f (box_side radius) x y) (box (squared f) (box_side radius) x y) * strength set radius + 2 ^ 19 < 2 ^ 32
  pub mean : (256 - weight (variation bd (count radius) (box f (box_side radius) x y) (box (squared f) (box_side radius) x y)) (strength set radius)) * box f (box_side radius) x y * one_by (count radius) + 2 ^ 11 < 2 ^ 32

-- 32 bits hold each number that is computed for any square of samples
abbrev pub EachBoxFits : Type 0
EachBoxFits = (bd radius set : ℕ) (f : Table) (x y : ℕ) → IsDepth bd → (radius ≡ 1) ⊎ (radius ≡ 2) → SquareBelow bd (box_side radius) f x y → Fits32 bd radius set f x y

-- a + d - b - c, modulo 2 ^ 32, of numbers that are known modulo 2 ^ 32
abbrev pub wrapped : ℕ → ℕ → ℕ → ℕ → ℕ
wrapped a b c d = (((a % 2 ^ 32 + (2 ^ 32 - b % 2 ^ 32)) % 2 ^ 32 + (2 ^ 32 - c % 2 ^ 32)) % 2 ^ 32 + d % 2 ^ 32) % 2 ^ 32

-- the sum over a square, by the sums at its corners
abbrev pub IsDirect : Table → ℕ → ℕ → ℕ → Type 0
IsDirect f n x y =
    wrapped (corner_sum f (x + n) (y + n)) (corner_sum f x (y + n)) (corner_sum f (x + n) y) (corner_sum f x y) ≡ box f n x y

-- the corners of each square give the sum over it
abbrev pub EachBoxIsDirect : Type 0
EachBoxIsDirect = (bd radius : ℕ) (f : Table) (x y : ℕ) → IsDepth bd → (radius ≡ 1) ⊎ (radius ≡ 2) → SquareBelow bd (box_side radius) f x y → IsDirect f (box_side radius) x y × IsDirect (squared f) (box_side radius) x y

-- Wiener coefficients that are all 0
abbrev pub zeros : List (List ℤ)
zeros = (pos 0 ∷ pos 0 ∷ pos 0 ∷ []) ∷ (pos 0 ∷ pos 0 ∷ pos 0 ∷ []) ∷ []

-- a Wiener filter with coefficients 0 leaves each sample as it is
abbrev pub ZeroWienerIsSame : Type 0
ZeroWienerIsSame = (bd : ℕ) (s : Scene) (x y : ℕ) → IsDepth bd → x < s.enhanced.width → y < s.enhanced.height → s.stripe.start ≤ y → y < s.stripe.stop → InDepth (2 ^ bd) (pixel s.enhanced x y) → wiener bd zeros s x y ≡ pixel s.enhanced x y
