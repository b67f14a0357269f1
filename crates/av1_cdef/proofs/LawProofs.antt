use Rattle.std.proofs.Common.{◌≡◌, ℕ, ℤ, pos, suc, ◌+◌, ◌-◌, ◌*◌, ◌%◌, min, max, List, [], ◌∷◌, All, refl, arith, Bool, true, false}
use Rattle.std.specs.Prelude.{if◌then◌else◌, ◌+ℤ◌, ◌-ℤ◌, ◌*ℤ◌, ◌≤ℤ◌, neg_ℤ, Option, Some, None}
use Rattle.std.specs.Int.{int_min, int_max, is_negative}
use Rattle.std.specs.Int.RustNames.{unsigned_abs}
use Rattle.std.proofs.lemmas.Int.{ints}
use Rattle.std.proofs.lemmas.Bool.Decides.{nat_tests}
use Rattle.av1_cdef.specs.Strength.{floor_log2, constrained, pull}
use Rattle.std.proofs.lemmas.List.Elements.{All-cons}
use Rattle.av1_cdef.specs.declared.settings.Settings.{Settings}
use Rattle.av1_cdef.specs.Picture.{sample_at, near}
use Rattle.av1_cdef.specs.Frame.{settings_of, is_skipped, block_cdef}
use Rattle.av1_cdef.specs.Filter.{Tap, filtered_sample, filtered_near, pair, taps_at, taps_of, tap_row, tap_column, primary_weight, secondary_weight, tap_pull, sum_of_taps, least_of_taps, greatest_of_taps, least_with, greatest_with}
use Rattle.av1_cdef.specs.Tally.{counted}
use Rattle.av1_cdef.specs.Laws.{SentinelAddsNothing, NoStrengthNoChange}
use Rattle.av1_cdef.proofs.Samples.{none_pulls}

-- the cell past the plane changes no tally
pub sentinel_adds_nothing : SentinelAddsNothing
unfolding counted
sentinel_adds_nothing t x weight strength damping lx low ls ld most =
    let z = none_pulls x strength damping lx ls most in
    let f : pull (x - 0x8000) strength (damping - floor_log2 strength) ≡ 0 = omega arith in
    let n : weight * 0 ≡ 0 = omega arith in
    let u : t.up + 0 ≡ t.up = omega arith in
    let d : t.down + 0 ≡ t.down = omega arith in
    let l : min t.least 0x8000 ≡ t.least = omega arith in
    let g : max t.greatest 0 ≡ t.greatest = omega arith in
    rw (z, f, n, u, d, l, g) refl

-- a tap of strength 0 adds 0
no_pull : (damping : ℕ) (x : ℤ) (t : Tap) → t.strength ≡ 0 → tap_pull damping x t ≡ pos 0
no_pull damping x t e = at t.sample
  where
    zero_pull : (d : ℤ) → constrained d t.strength damping ≡ pos 0
    zero_pull d = rw e (let p : pull (unsigned_abs d) 0 (damping - floor_log2 0) ≡ 0 = omega arith in rw p (signed (is_negative d)))
      where
        signed : (b : Bool) → (if b then neg_ℤ (pos 0) else pos 0) ≡ pos 0
        signed true = refl
        signed false = refl

    at : (o : Option ℤ) → (elim o [ Some v ↦ pos t.weight *ℤ constrained (v -ℤ x) t.strength damping | None ↦ pos 0 ]) ≡ pos 0
    at (Some v) = rw (zero_pull (v -ℤ x)) (let n : t.weight * 0 ≡ 0 = omega arith in rw n refl)
    at None = refl

-- taps of strength 0 add 0
no_sum : (damping : ℕ) (x sum : ℤ) (taps : List Tap) → All (λ t. t.strength ≡ 0) taps → sum_of_taps damping x sum taps ≡ sum
no_sum damping x sum [] h = refl
no_sum damping x sum (t ∷ ts) h =
    let here = no_pull damping x t (h 0 t (omega arith)) in
    let plus : sum +ℤ pos 0 ≡ sum = omega (arith, ints) in
    rw (here, plus) (no_sum damping x sum ts (λ k d l. h (suc k) d (omega arith)))

-- the least over taps is no greater than the number that it began with
least_below : (least x : ℤ) (taps : List Tap) → least ≤ℤ x → least_of_taps least taps ≤ℤ x
least_below least x [] l = l
least_below least x (t ∷ ts) l = least_below (least_with least t.sample) x ts (at t.sample)
  where
    at : (o : Option ℤ) → least_with least o ≤ℤ x
    at (Some v) = grind (arith, ints, nat_tests)
    at None = l

-- the greatest over taps is no less than the number that it began with
greatest_above : (greatest x : ℤ) (taps : List Tap) → x ≤ℤ greatest → x ≤ℤ greatest_of_taps greatest taps
greatest_above greatest x [] l = l
greatest_above greatest x (t ∷ ts) l = greatest_above (greatest_with greatest t.sample) x ts (at t.sample)
  where
    at : (o : Option ℤ) → x ≤ℤ greatest_with greatest o
    at (Some v) = grind (arith, ints, nat_tests)
    at None = l

-- a sample between the least and the greatest stays
between : (x a b : ℤ) → a ≤ℤ x → x ≤ℤ b → int_min (int_max (x +ℤ pos 0) a) b ≡ x
between x a b l m = let e : x +ℤ pos 0 ≡ x = omega (arith, ints) in rw e (grind (arith, ints, nat_tests))

-- taps of strength 0 leave the sample as it is
unmoved : (damping : ℕ) (x : ℤ) (taps : List Tap) → All (λ t. t.strength ≡ 0) taps → filtered_sample damping x taps ≡ x
unmoved damping x taps h =
    rw (no_sum damping x (pos 0) taps h) (between x (least_of_taps x taps) (greatest_of_taps x taps) (least_below x x taps (omega (arith, ints))) (greatest_above x x taps (omega (arith, ints))))

-- a tap of strength 0
abbrev IsStill : Tap → Type 0
IsStill t = t.strength ≡ 0

-- a pair of taps of strength 0 before taps of strength 0 leaves all of strength 0
still_pair : (near : ℕ → ℕ → Option ℤ) (d k weight strength : ℕ) (rest : List Tap) → strength ≡ 0 → All IsStill rest → All IsStill (pair near d k weight strength rest)
still_pair near d k weight strength rest e h =
    let first : Tap = record { sample = near (tap_row d k) (tap_column d k); weight = weight; strength = strength } in
    let second : Tap = record { sample = near (4 - tap_row d k) (4 - tap_column d k); weight = weight; strength = strength } in
    All-cons IsStill first (second ∷ rest) e (All-cons IsStill second rest e h)

-- the taps at one distance have strength 0 where both strengths are 0
still_taps : (near : ℕ → ℕ → Option ℤ) (s : Settings) (k : ℕ) (rest : List Tap) → s.primary ≡ 0 → s.secondary ≡ 0 → All IsStill rest → All IsStill (taps_at near s k rest)
still_taps near s k rest p q h =
    let left = pair near ((s.direction + 6) % 8) k (secondary_weight k) s.secondary rest in
    let right = pair near ((s.direction + 2) % 8) k (secondary_weight k) s.secondary left in
    still_pair near s.direction k (primary_weight s.primary s.scale k) s.primary right p
    (still_pair near ((s.direction + 2) % 8) k (secondary_weight k) s.secondary left q
    (still_pair near ((s.direction + 6) % 8) k (secondary_weight k) s.secondary rest q h))

-- a sample filtered with strengths 0 stays as it is
pub still_near : (near : ℕ → ℕ → Option ℤ) (s : Settings) (x : ℤ) → s.primary ≡ 0 → s.secondary ≡ 0 → filtered_near near s x ≡ x
still_near near s x p q =
    unmoved s.damping x (taps_of near s) (still_taps near s 0 (taps_at near s 1 []) p q (still_taps near s 1 [] p q (λ k d l. absurd (omega arith))))

-- a block without strengths is unchanged
pub no_strength_no_change : NoStrengthNoChange
unfolding block_cdef
no_strength_no_change d c index bx by x y p q = at (is_skipped d bx by)
  where
    at : (b : Bool) → (if b then sample_at c.picture x y else filtered_near (near c.picture x y) (settings_of d c index bx by) (sample_at c.picture x y)) ≡ sample_at c.picture x y
    at true = refl
    at false = still_near (near c.picture x y) (settings_of d c index bx by) (sample_at c.picture x y) p q
