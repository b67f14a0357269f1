-- The greatest length of a list of tiles and the last tile of that length, one tile after another.
use Rattle.std.proofs.Common.{◌≡◌, ℕ, zero, suc, ◌+◌, ◌*◌, ◌^◌, ◌<◌, ◌≤◌, All, max, inl, inr, Bool, true, false, List, [], ◌∷◌, ◌++◌, length, map, take, get_or, refl, sym, ap, ◌∙◌, arith}
use Rattle.std.specs.Prelude.{nat_lt, if◌then◌else◌}
use Rattle.std.proofs.lemmas.Bool.{cases_lt}
use Rattle.std.proofs.lemmas.Bool.Decides.{nat_tests}
use Rattle.std.proofs.lemmas.List.{take_more, map-append, length-map, length-take}
use Rattle.std.specs.Int.{div_ceil}
use Rattle.std.proofs.Math.Nat.{pow-suc, pow-le-pow_right}
use Rattle.std.proofs.lemmas.Nat.{leading_top, pow-add}
use Rattle.std.proofs.lemmas.List.Elements.{All-head, All-tail}
use Rattle.av1_frame.specs.Framing.{greatest, longest, size_bytes, binary_digits, CanFrame}

-- one tile more makes the greatest length the greater of two
greatest_push : (tiles : List (List ℕ)) (last : List ℕ) → greatest (tiles ++ last ∷ []) ≡ max (greatest tiles) (length last)
unfolding greatest
greatest_push [] last = omega arith
greatest_push (tile ∷ tiles) last = let rest = greatest_push tiles last in omega arith

-- the first of several tiles against a later one: l is the last length, a the first, g the greatest between
compared : (l a g n m k : ℕ) → k ≡ m + 1 → (if nat_lt (max g l) a then 0 else (if nat_lt l g then n else m) + 1) ≡ (if nat_lt l (max a g) then (if nat_lt g a then 0 else n + 1) else k)
compared l a g n m k e = grind (arith, nat_tests)

-- the last of the longest with one tile more
pub longest_push : (tiles : List (List ℕ)) (last : List ℕ) → longest (tiles ++ last ∷ []) ≡ (if nat_lt (length last) (greatest tiles) then longest tiles else length tiles)
unfolding longest greatest
longest_push [] last = grind (arith, nat_tests)
longest_push (tile ∷ []) last = grind (arith, nat_tests)
longest_push (tile ∷ next ∷ tiles) last =
    let rest = longest_push (next ∷ tiles) last in
    let most = greatest_push (next ∷ tiles) last in
    (λ i. if nat_lt (most i) (length tile) then 0 else rest i + 1)
    ∙ compared (length last) (length tile) (greatest (next ∷ tiles)) (longest (next ∷ tiles)) (length (next ∷ tiles)) (length (tile ∷ next ∷ tiles)) (omega arith)

-- A list of tiles with one tile more at its end.
module _ {B : Type 0} (items : B → List ℕ) (tiles : List B) (n : ℕ) (tile : B) (less : n < length tiles) (here : tile ≡ get_or tiles n tile) where
  -- One tile more at the front of a list adds its bytes at the end.
  next : map items (take (n + 1) tiles) ≡ map items (take n tiles) ++ items tile ∷ []
  next =
      ap (map items) (take_more tiles n tile less ∙ ap (λ z. take n tiles ++ z ∷ []) (sym here))
      ∙ map-append items (take n tiles) (tile ∷ [])

  -- One tile more raises the greatest length to its own, where its own is greater.
  pub greatest_more : greatest (map items (take (n + 1) tiles)) ≡ max (greatest (map items (take n tiles))) (length (items tile))
  greatest_more = ap greatest next ∙ greatest_push (map items (take n tiles)) (items tile)

  -- One tile more is the last of the longest, unless an earlier one is longer.
  pub longest_more : longest (map items (take (n + 1) tiles)) ≡ (if nat_lt (length (items tile)) (greatest (map items (take n tiles))) then longest (map items (take n tiles)) else n)
  longest_more =
      let long : length (map items (take n tiles)) ≡ n = length-map (take n tiles) items ∙ (length-take n tiles ∙ omega arith) in
      ap longest next ∙ (longest_push (map items (take n tiles)) (items tile)
      ∙ ap (λ (k : ℕ). if nat_lt (length (items tile)) (greatest (map items (take n tiles))) then longest (map items (take n tiles)) else k) long)

-- a tile as long as all so far is the last of the longest
pub longest_here : (l g a n : ℕ) → g ≤ l → (if nat_lt l g then a else n) ≡ n
longest_here l g a n h = grind (arith, nat_tests)

-- a tile that is shorter than the longest isn't the longest
pub longest_before : (l g a n : ℕ) → l < g → (if nat_lt l g then a else n) ≡ a
longest_before l g a n h = grind (arith, nat_tests)

-- How many bytes the greatest length takes.

-- the numbers of `count` bytes are the numbers of 8 * count bits
bits_of : (count : ℕ) → 2 ^ (8 * count) ≡ 256 ^ count
bits_of zero = refl
bits_of (suc count) =
    let same : 8 * suc count ≡ 8 * count + 8 = omega arith in
    ap (λ (n : ℕ). 2 ^ n) same ∙ (pow-add 2 (8 * count) 8 ∙ (ap (λ (n : ℕ). n * 256) (bits_of count) ∙ sym (pow-suc 256 count)))

-- the least number of bytes that hold a length of 1 to 2 ^ 32 - 1
pub size_holds : (n : ℕ) → 1 ≤ n → n < 2 ^ 32 → (1 ≤ div_ceil (binary_digits n) 8) × ((div_ceil (binary_digits n) 8 ≤ 4) × (n ≤ 256 ^ div_ceil (binary_digits n) 8))
size_holds n some few =
    let top = leading_top 64 n (omega arith) (omega arith) in
    let digits = top.0 in
    let counted = top.1 in
    let low = top.2 in
    let high = top.3 in
    let bytes = div_ceil (binary_digits n) 8 in
    let small : digits < 32 = elim (cases_lt digits 32) [
      | inl less ↦ less
      | inr more ↦ let most : 2 ^ 32 ≤ 2 ^ digits = pow-le-pow_right {n = 2} (omega arith) more in absurd (omega arith)
    ] in
    let same : binary_digits n ≡ suc digits = omega arith in
    let enough : suc digits ≤ 8 * bytes = omega arith in
    let most : 2 ^ suc digits ≤ 2 ^ (8 * bytes) = pow-le-pow_right {n = 2} (omega arith) enough in
    let bits : 2 ^ (8 * bytes) ≡ 256 ^ bytes = bits_of bytes in
    (omega arith, (omega arith, omega arith))

-- no tile is longer than the greatest length
longest_at : (tiles : List (List ℕ)) (k : ℕ) → length (get_or tiles k []) ≤ greatest tiles
unfolding greatest
longest_at [] k = omega arith
longest_at (tile ∷ tiles) zero = omega arith
longest_at (tile ∷ tiles) (suc k) = let rest = longest_at tiles k in omega arith

-- the greatest length of tiles below a bound is below the bound
greatest_below : (bound : ℕ) (tiles : List (List ℕ)) → 0 < bound → All (λ tile. length tile < bound) tiles → greatest tiles < bound
unfolding greatest
greatest_below bound [] some each = some
greatest_below bound (tile ∷ tiles) some each =
    let first = All-head (λ t. length t < bound) tile tiles each in
    let rest = greatest_below bound tiles some (All-tail (λ t. length t < bound) tile tiles each) in
    omega arith

-- The greatest length of some tiles, none of them empty, is at least 1.
greatest_some : (tiles : List (List ℕ)) → 1 ≤ length tiles → All (λ tile. 1 ≤ length tile) tiles → 1 ≤ greatest tiles
unfolding greatest
greatest_some [] some each = absurd (omega arith)
greatest_some (tile ∷ tiles) some each = let first = All-head (λ t. 1 ≤ length t) tile tiles each in omega arith

-- tiles of 1 to 2 ^ 32 - 1 bytes can be framed with the size bytes of the greatest length
pub can_frame : (tiles : List (List ℕ)) → 1 ≤ length tiles → All (λ tile. 1 ≤ length tile) tiles → All (λ tile. length tile < 2 ^ 32) tiles
    → CanFrame (size_bytes tiles) tiles × ((1 ≤ size_bytes tiles) × (size_bytes tiles ≤ 4))
can_frame tiles some filled few =
    let held = size_holds (greatest tiles) (greatest_some tiles some filled) (greatest_below (2 ^ 32) tiles (omega arith) few) in (
      record { some = some; filled = filled; fits = λ k l. let long = longest_at tiles k in let most = held.1.1 in omega arith },
      (held.0, held.1.0),
    )
