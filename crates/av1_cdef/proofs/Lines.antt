-- Sums along the lines of a direction.
use Rattle.std.proofs.Common.{◌≡◌, ℕ, zero, suc, ◌+◌, ◌-◌, ◌*◌, ◌/◌, ◌%◌, ◌<◌, ◌≤◌, List, [], ◌∷◌, ◌++◌, length, get_or, ◌⊎◌, length-append, refl, sym, ◌∙◌, ap, arith, add-one, inl, inr, true, false, Bool, All}
use Rattle.std.specs.Prelude.{if◌then◌else◌, ◌==◌, nat_lt}
use Rattle.std.proofs.Math.Nat.{mul-le-mul, div-mul-le_self, mul-le-mul_left, mul-le-mul_right}
use Rattle.std.proofs.Math.Seq.{get_or-append_seam}
use Rattle.std.proofs.lemmas.List.{get_or_append_left}
use Rattle.std.proofs.lemmas.List.Elements.{All-get_or}
use Rattle.std.proofs.lemmas.Bool.{cases_lt}
use Rattle.std.proofs.lemmas.Bool.Decides.{nat_tests}
use Rattle.av1_cdef.specs.Sums.{total_below, tabulated, first_greatest}
use Rattle.av1_cdef.specs.Direction.{line_of, sample_in_block, along, line_sum, line_places, line_cost, cost}

-- the sum of no terms is 0
pub sum_below_none : (f : ℕ → ℕ) → total_below 0 f ≡ 0
unfolding total_below
sum_below_none f = refl

-- one term more adds to a sum
pub sum_below_more : (k : ℕ) (f : ℕ → ℕ) → total_below (k + 1) f ≡ total_below k f + f k
unfolding total_below
sum_below_more k f = rw add-one refl

-- a table of n values has n entries
pub length-tabulated : (n : ℕ) (f : ℕ → ℕ) → length (tabulated n f) ≡ n
unfolding tabulated
length-tabulated zero f = refl
length-tabulated (suc n) f = omega (arith, length-append (tabulated n f) (f n ∷ []), length-tabulated n f)

-- an entry of a table of values is the value at its number
pub get_or-tabulated : (n : ℕ) (f : ℕ → ℕ) (i : ℕ) → i < n → get_or (tabulated n f) i 0 ≡ f i
unfolding tabulated
get_or-tabulated zero f i l = absurd (omega arith)
get_or-tabulated (suc n) f i l = elim (cases_lt i n) [
  | inl h ↦ get_or_append_left (tabulated n f) (f n ∷ []) 0 i (omega (arith, length-tabulated n f)) ∙ get_or-tabulated n f i h
  | inr h ↦
      let last : i ≡ length (tabulated n f) = omega (arith, length-tabulated n f) in
      let here : n ≡ i = omega arith in
      ap (λ m. get_or (tabulated n f ++ f n ∷ []) m 0) last
      ∙ get_or-append_seam (tabulated n f) (f n) [] 0
      ∙ ap f here
]

-- 840 over the length of line n, for each line of a direction
abbrev shares : ℕ → ℕ → ℕ
shares d n = 840 / line_places d n

-- the shares of directions 0 and 4
abbrev diagonal : List ℕ
diagonal = 840 ∷ 420 ∷ 280 ∷ 210 ∷ 168 ∷ 140 ∷ 120 ∷ 105 ∷ 120 ∷ 140 ∷ 168 ∷ 210 ∷ 280 ∷ 420 ∷ 840 ∷ 0 ∷ []

-- the shares of directions 2 and 6
abbrev straight : List ℕ
straight = 105 ∷ 105 ∷ 105 ∷ 105 ∷ 105 ∷ 105 ∷ 105 ∷ 105 ∷ 0 ∷ 0 ∷ 0 ∷ 0 ∷ 0 ∷ 0 ∷ 0 ∷ 0 ∷ []

-- the shares of lines in the directions that are neither straight nor at 45 degrees
abbrev slanted : List ℕ
slanted = 420 ∷ 210 ∷ 140 ∷ 105 ∷ 105 ∷ 105 ∷ 105 ∷ 105 ∷ 140 ∷ 210 ∷ 420 ∷ 0 ∷ 0 ∷ 0 ∷ 0 ∷ 0 ∷ []

-- the entry of a table of shares is the line's share
share_by : (d n : ℕ) (table : List ℕ) → tabulated 16 (shares d) ≡ table → n < 16 → get_or table n 0 ≡ shares d n
share_by d n table e l = ap (λ xs. get_or xs n 0) (sym e) ∙ get_or-tabulated 16 (shares d) n l

-- a share of direction 0 or 4 is an entry of the table for diagonals
pub share_diagonal : (d n : ℕ) → (d ≡ 0) ⊎ (d ≡ 4) → n < 16 → get_or diagonal n 0 ≡ 840 / line_places d n
unfolding total_below tabulated
share_diagonal d n (inl e) l = rw e (share_by 0 n diagonal refl l)
share_diagonal d n (inr e) l = rw e (share_by 4 n diagonal refl l)

-- a share of direction 2 or 6 is an entry of the table for straight lines
pub share_straight : (d n : ℕ) → (d ≡ 2) ⊎ (d ≡ 6) → n < 16 → get_or straight n 0 ≡ 840 / line_places d n
unfolding total_below tabulated
share_straight d n (inl e) l = rw e (share_by 2 n straight refl l)
share_straight d n (inr e) l = rw e (share_by 6 n straight refl l)

-- a share of another direction is an entry of the table for slanted lines
pub share_slanted : (d n : ℕ) → (d ≡ 1) ⊎ (d ≡ 3) ⊎ (d ≡ 5) ⊎ (d ≡ 7) → n < 16 → get_or slanted n 0 ≡ 840 / line_places d n
unfolding total_below tabulated
share_slanted d n (inl e) l = rw e (share_by 1 n slanted refl l)
share_slanted d n (inr (inl e)) l = rw e (share_by 3 n slanted refl l)
share_slanted d n (inr (inr (inl e))) l = rw e (share_by 5 n slanted refl l)
share_slanted d n (inr (inr (inr e))) l = rw e (share_by 7 n slanted refl l)

-- Costs: no line sums up to more than 255 for each of its places, so that a cost stays below 2 ^ 32.

-- a bound on each term gives a bound on the sum
sum_below_scaled : (b : ℕ) (f g : ℕ → ℕ) (m : ℕ) → ((i : ℕ) → i < m → f i ≤ b * g i) → total_below m f ≤ b * total_below m g
unfolding total_below
sum_below_scaled b f g zero h = omega arith
sum_below_scaled b f g (suc m) h =
    let before : total_below m f ≤ b * total_below m g = sum_below_scaled b f g m (λ i l. h i (omega arith)) in
    let here : f m ≤ b * g m = h m (omega arith) in
    let e : b * (total_below m g + g m) ≡ b * total_below m g + b * g m = grind arith in
    omega arith

-- a bound on a value gives a bound on a choice of the value or 0
if_scaled : (t : Bool) (a b c : ℕ) → a ≤ b * c → (if t then a else 0) ≤ b * (if t then c else 0)
if_scaled true a b c h = h
if_scaled false a b c h = omega arith

-- a bound on each place gives a bound on the sum along a line
along_more : (d n b : ℕ) (f g : ℕ → ℕ → ℕ) → ((i j : ℕ) → i < 8 → j < 8 → f i j ≤ b * g i j) → along d n f ≤ b * along d n g
along_more d n b f g h =
    sum_below_scaled b (λ i. total_below 8 (λ j. if line_of d i j == n then f i j else 0)) (λ i. total_below 8 (λ j. if line_of d i j == n then g i j else 0)) 8
    (λ i li. sum_below_scaled b (λ j. if line_of d i j == n then f i j else 0) (λ j. if line_of d i j == n then g i j else 0) 8
    (λ j lj. if_scaled (line_of d i j == n) (f i j) b (g i j) (h i j li lj)))

-- a line of bytes sums to at most 255 for each place
pub line_sum_most : (block : List ℕ) (d n : ℕ) → length block ≡ 64 → All (λ p. p ≤ 255) block → line_sum block d n ≤ 255 * line_places d n
line_sum_most block d n e h = along_more d n 255 (sample_in_block block) (λ i j. 1) (λ i j li lj. let s : get_or block (8 * i + j) 0 ≤ 255 = All-get_or (λ p. p ≤ 255) block (8 * i + j) 0 (omega arith) h in omega arith)

-- a line's share of its squared sum is bounded
square_most : (s len share : ℕ) → s ≤ 255 * len → share * len ≤ 840 → share * (s * s) ≤ 54621000 * len
square_most s len share h e =
    let a : s * s ≤ 255 * len * (255 * len) = mul-le-mul h h in
    let b : share * (s * s) ≤ share * (255 * len * (255 * len)) = mul-le-mul_left share a in
    let c : share * (255 * len * (255 * len)) ≡ share * len * (65025 * len) = grind arith in
    let d : share * len * (65025 * len) ≤ 840 * (65025 * len) = mul-le-mul_right (65025 * len) e in
    omega arith

-- the cost of a line of bytes is bounded
line_cost_most : (block : List ℕ) (d n : ℕ) → length block ≡ 64 → All (λ p. p ≤ 255) block → line_cost block d n ≤ 54621000 * line_places d n
line_cost_most block d n e h = square_most (line_sum block d n) (line_places d n) (840 / line_places d n) (line_sum_most block d n e h) (div-mul-le_self 840 (line_places d n))

-- a sum of more terms is no less
sum_below_up : (f : ℕ → ℕ) (n m : ℕ) → n ≤ m → total_below n f ≤ total_below m f
unfolding total_below
sum_below_up f n zero l = let e : n ≡ 0 = omega arith in rw e (omega arith)
sum_below_up f n (suc m) l = elim (cases_lt n (suc m)) [
  | inl h ↦ let r : total_below n f ≤ total_below m f = sum_below_up f n m (omega arith) in omega arith
  | inr h ↦ let e : n ≡ suc m = omega arith in rw e (omega arith)
]

-- the lines of a direction have 64 places
pub all_lengths : (d : ℕ) → d < 8 → total_below 15 (line_places d) ≡ 64
unfolding total_below
all_lengths zero l = refl
all_lengths (suc zero) l = refl
all_lengths (suc (suc zero)) l = refl
all_lengths (suc (suc (suc zero))) l = refl
all_lengths (suc (suc (suc (suc zero)))) l = refl
all_lengths (suc (suc (suc (suc (suc zero))))) l = refl
all_lengths (suc (suc (suc (suc (suc (suc zero)))))) l = refl
all_lengths (suc (suc (suc (suc (suc (suc (suc zero))))))) l = refl
all_lengths (suc (suc (suc (suc (suc (suc (suc (suc n)))))))) l = absurd (omega arith)

-- the lengths of 16 lines of a direction add up to 64
pub all_lengths_16 : (d : ℕ) → d < 8 → total_below 16 (line_places d) ≡ 64
unfolding total_below
all_lengths_16 zero l = refl
all_lengths_16 (suc zero) l = refl
all_lengths_16 (suc (suc zero)) l = refl
all_lengths_16 (suc (suc (suc zero))) l = refl
all_lengths_16 (suc (suc (suc (suc zero)))) l = refl
all_lengths_16 (suc (suc (suc (suc (suc zero))))) l = refl
all_lengths_16 (suc (suc (suc (suc (suc (suc zero)))))) l = refl
all_lengths_16 (suc (suc (suc (suc (suc (suc (suc zero))))))) l = refl
all_lengths_16 (suc (suc (suc (suc (suc (suc (suc (suc n)))))))) l = absurd (omega arith)

-- line 15 of a direction has no place, and so no share
no_share : (d : ℕ) → d < 8 → 840 / line_places d 15 ≡ 0
unfolding total_below
no_share zero l = refl
no_share (suc zero) l = refl
no_share (suc (suc zero)) l = refl
no_share (suc (suc (suc zero))) l = refl
no_share (suc (suc (suc (suc zero)))) l = refl
no_share (suc (suc (suc (suc (suc zero))))) l = refl
no_share (suc (suc (suc (suc (suc (suc zero)))))) l = refl
no_share (suc (suc (suc (suc (suc (suc (suc zero))))))) l = refl
no_share (suc (suc (suc (suc (suc (suc (suc (suc n)))))))) l = absurd (omega arith)

-- the cost of a direction fits 32 bits
pub costs_most : (block : List ℕ) (d n : ℕ) → d < 8 → n ≤ 16 → length block ≡ 64 → All (λ p. p ≤ 255) block → total_below n (line_cost block d) ≤ 3495744000
costs_most block d n ld ln e h =
    let a : total_below n (line_cost block d) ≤ 54621000 * total_below n (line_places d) = sum_below_scaled 54621000 (line_cost block d) (line_places d) n (λ i l. line_cost_most block d i e h) in
    let b : total_below n (line_places d) ≤ total_below 16 (line_places d) = sum_below_up (line_places d) n 16 ln in
    let c : total_below 16 (line_places d) ≡ 64 = all_lengths_16 d ld in
    omega arith

-- the square of a sum of at most 64 bytes is bounded
square_64 : (s len : ℕ) → s ≤ 255 * len → len ≤ 64 → s * s ≤ 266342400
square_64 s len h l =
    let small : s ≤ 16320 = omega arith in
    mul-le-mul {n₁ = s} {m₁ = s} {n₂ = 16320} {m₂ = 16320} small small

-- no line has more than 64 places
length_most : (d n : ℕ) → d < 8 → n < 16 → line_places d n ≤ 64
length_most d n ld ln =
    let here = sum_below_more n (line_places d) in
    let up = sum_below_up (line_places d) (n + 1) 16 (omega arith) in
    let all = all_lengths_16 d ld in
    last (total_below n (line_places d)) (line_places d n) (total_below (n + 1) (line_places d)) (total_below 16 (line_places d)) here up all
  where
    last : (a b c d : ℕ) → c ≡ a + b → c ≤ d → d ≡ 64 → b ≤ 64
    last a b c d e l f = omega arith

-- the square of a line fits 32 bits
pub line_square_most : (block : List ℕ) (d n : ℕ) → d < 8 → n < 16 → length block ≡ 64 → All (λ p. p ≤ 255) block → line_sum block d n * line_sum block d n ≤ 266342400
line_square_most block d n ld ln e h = square_64 (line_sum block d n) (line_places d n) (line_sum_most block d n e h) (length_most d n ld ln)

-- the cost of a direction is the sum of the costs of its lines
pub cost_is : (block : List ℕ) (d : ℕ) → total_below 15 (line_cost block d) ≡ cost block d
unfolding cost
cost_is block d = refl

-- the sixteenth line costs nothing
pub cost_16 : (block : List ℕ) (d : ℕ) → d < 8 → total_below 16 (line_cost block d) ≡ cost block d
cost_16 block d l =
    sum_below_more 15 (line_cost block d)
    ∙ (let none : line_cost block d 15 ≡ 0 = rw (no_share d l) (omega arith) in rw none (omega arith))
    ∙ cost_is block d

-- The first greatest.

-- the first greatest of one number is the number 0
pub first_none : (f : ℕ → ℕ) → first_greatest 0 f ≡ 0
unfolding first_greatest
first_none f = refl

-- a value that is greater than all before becomes the greatest
pub first_better : (n : ℕ) (f : ℕ → ℕ) → f (first_greatest n f) < f (n + 1) → first_greatest (n + 1) f ≡ n + 1
unfolding first_greatest
first_better n f h = rw add-one (let t : nat_lt (f (first_greatest n f)) (f (suc n)) ≡ true = grind (arith, nat_tests) in rw t refl)

-- a value that is no greater leaves the first greatest as it was
pub first_kept : (n : ℕ) (f : ℕ → ℕ) → f (n + 1) ≤ f (first_greatest n f) → first_greatest (n + 1) f ≡ first_greatest n f
unfolding first_greatest
first_kept n f h = rw add-one (let t : nat_lt (f (first_greatest n f)) (f (suc n)) ≡ false = grind (arith, nat_tests) in rw t refl)

-- the first greatest number is one of the numbers up to n
pub first_inside : (n : ℕ) (f : ℕ → ℕ) → first_greatest n f ≤ n
unfolding first_greatest
first_inside zero f = omega arith
first_inside (suc n) f = at (nat_lt (f (first_greatest n f)) (f (suc n))) (first_inside n f)
  where
    at : (t : Bool) → first_greatest n f ≤ n → (if t then suc n else first_greatest n f) ≤ suc n
    at true h = omega arith
    at false h = omega arith

-- functions that are equal up to n have the same first greatest number up to n
pub first_same : (n : ℕ) (f g : ℕ → ℕ) → ((d : ℕ) → d ≤ n → f d ≡ g d) → first_greatest n f ≡ first_greatest n g
unfolding first_greatest
first_same zero f g h = refl
first_same (suc n) f g h =
    let r : first_greatest n f ≡ first_greatest n g = first_same n f g (λ d l. h d (omega arith)) in
    let inside : first_greatest n g ≤ n = first_inside n g in
    let a : f (first_greatest n g) ≡ g (first_greatest n g) = h (first_greatest n g) (omega arith) in
    let b : f (suc n) ≡ g (suc n) = h (suc n) (omega arith) in
    rw (r, a, b) refl

-- a list of eight values has the function's value at each number
pub eight : (f : ℕ → ℕ) (a b c d e g h i : ℕ) → a ≡ f 0 → b ≡ f 1 → c ≡ f 2 → d ≡ f 3 → e ≡ f 4 → g ≡ f 5 → h ≡ f 6 → i ≡ f 7 → (n : ℕ) → n < 8 → get_or (a ∷ b ∷ c ∷ d ∷ e ∷ g ∷ h ∷ i ∷ []) n 0 ≡ f n
eight f a b c d e g h i pa pb pc pd pe pg ph pi zero l = pa
eight f a b c d e g h i pa pb pc pd pe pg ph pi (suc zero) l = pb
eight f a b c d e g h i pa pb pc pd pe pg ph pi (suc (suc zero)) l = pc
eight f a b c d e g h i pa pb pc pd pe pg ph pi (suc (suc (suc zero))) l = pd
eight f a b c d e g h i pa pb pc pd pe pg ph pi (suc (suc (suc (suc zero)))) l = pe
eight f a b c d e g h i pa pb pc pd pe pg ph pi (suc (suc (suc (suc (suc zero))))) l = pg
eight f a b c d e g h i pa pb pc pd pe pg ph pi (suc (suc (suc (suc (suc (suc zero)))))) l = ph
eight f a b c d e g h i pa pb pc pd pe pg ph pi (suc (suc (suc (suc (suc (suc (suc zero))))))) l = pi
eight f a b c d e g h i pa pb pc pd pe pg ph pi (suc (suc (suc (suc (suc (suc (suc (suc n)))))))) l = absurd (omega arith)

-- the variance is the difference of two costs over 1024
pub margin_is : (g : ℕ → ℕ) (x y b d r : ℕ) → b ≡ d → x ≡ g b → y ≡ g ((b + 4) % 8) → r ≡ (x - y) / 1024 → r ≡ (g d - g ((d + 4) % 8)) / 1024
margin_is g x y b d r e p q h = rw (h, p, q, e) refl

pub ruleset costs = (costs_most, cost_16, sum_below_none, sum_below_more)

pub ruleset firsts = (first_none, first_better, first_kept)
