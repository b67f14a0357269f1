-- What the level changes of one line: two tests, each of which turns once.
use Rattle.std.proofs.Common.{◌≡◌, ℕ, ℤ, zero, suc, ◌+◌, ◌-◌, ◌*◌, ◌/◌, ◌<◌, Bool, true, false, List, arith, refl, ap, ◌∙◌, if◌then◌else◌, ◌==◌, ◌&&◌, max, min, nat_le, nat_lt, not, inl, inr}
use Rattle.std.proofs.lemmas.Bool.Decides.{nat_tests}
use Rattle.av1_deblock.specs.Line.{before, after, distance, all_below, step_within, steps_within, within_limits, high_variance, flat, flat_outside, tested, narrow, wide, line_at}
use Rattle.av1_deblock.specs.Thresholds.{IsScale, over, greatest_step, edge_distance, first_level, variance, moved_line}
use Rattle.av1_deblock.specs.Errors.{line_distance, by_level}

-- a step within a limit at 8 bits
step_one : (d l : ℕ) → nat_le d (l * 1) ≡ nat_le (over d 1) l
step_one d l = grind (arith, nat_tests)

-- a step within a limit at 10 bits
step_four : (d l : ℕ) → nat_le d (l * 4) ≡ nat_le (over d 4) l
step_four d l = grind (arith, nat_tests)

-- a step within a limit at 12 bits
step_sixteen : (d l : ℕ) → nat_le d (l * 16) ≡ nat_le (over d 16) l
step_sixteen d l = grind (arith, nat_tests)

-- a distance is within l * s from the level over d s on
pub step_from : (d l s : ℕ) → IsScale s → nat_le d (l * s) ≡ nat_le (over d s) l
step_from d l s h = elim h [
  | inl e ↦ rw e (step_one d l)
  | inr k ↦ elim k [ inl e ↦ rw e (step_four d l) | inr e ↦ rw e (step_sixteen d l) ]
]

-- the limit on the edge, solved for the level
third : (c l : ℕ) → nat_le c (3 * l + 4) ≡ nat_le ((c - 4 + 2) / 3) l
third c l = grind (arith, nat_tests)

-- the edge's own distance is within its limit from this level on
pub edge_from : (d l s : ℕ) → IsScale s → nat_le d ((3 * l + 4) * s) ≡ nat_le ((over d s - 4 + 2) / 3) l
edge_from d l s h = step_from d (3 * l + 4) s h ∙ third (over d s) l

-- a test for less is the negation of a test for at most the other way round
turned : (v a : ℕ) → nat_lt a v ≡ not (nat_le v a)
turned v a = grind (arith, nat_tests)

-- the limit of high variance, solved for the level
sixteenth : (c l : ℕ) → not (nat_le c (l / 16)) ≡ nat_lt l (16 * c)
sixteenth c l = grind (arith, nat_tests)

-- high variance is lost from 16 * over v s on
pub sharp_below : (v l s : ℕ) → IsScale s → nat_lt (l / 16 * s) v ≡ nat_lt l (16 * over v s)
sharp_below v l s h = turned v (l / 16 * s) ∙ ap not (step_from v (l / 16) s h) ∙ sixteenth (over v s) l

-- two tests that begin to hold at two levels hold together from the greater one on
both_from : (a b l : ℕ) → (nat_le a l && nat_le b l) ≡ nat_le (max a b) l
both_from a b l = grind (arith, nat_tests)

-- a test for at least 0 always holds
none_from : (l : ℕ) → true ≡ nat_le 0 l
none_from l = grind (arith, nat_tests)

-- all steps are within a limit where the greatest step is
steps_at : (xs : List ℤ) (half n m : ℕ) → steps_within xs half n m ≡ nat_le (greatest_step xs half n) m
unfolding all_below greatest_step
steps_at xs half zero m = none_from m
steps_at xs half (suc n) m =
    ap (λ b. b && step_within xs half m n) (steps_at xs half n m)
    ∙ ap (λ b. nat_le (greatest_step xs half n) m && b) (both_from (distance (before xs half (n + 1)) (before xs half n)) (distance (after xs half (n + 1)) (after xs half n)) m)
    ∙ both_from (greatest_step xs half n) (max (distance (before xs half (n + 1)) (before xs half n)) (distance (after xs half (n + 1)) (after xs half n))) m

-- a number above 0 is at least 1
above_none : (l : ℕ) → nat_lt 0 l ≡ nat_le 1 l
above_none l = grind (arith, nat_tests)

-- a line is filtered from one level on
pub filtered_from : (s size l : ℕ) (xs : List ℤ) → IsScale s → within_limits s size l xs ≡ nat_le (first_level s size xs) l
filtered_from s size l xs h =
    let half = size / 2 in
    let a = above_none l in
    let b = edge_from (edge_distance xs half) l s h in
    let c = steps_at xs half (tested size) (l * s) ∙ step_from (greatest_step xs half (tested size)) l s h in
    rw (a, b, c) (rw (both_from 1 ((over (edge_distance xs half) s - 4 + 2) / 3) l) (both_from (max 1 ((over (edge_distance xs half) s - 4 + 2) / 3)) (over (greatest_step xs half (tested size)) s) l))

-- a line has high variance below a level
pub variance_below : (s size l : ℕ) (xs : List ℤ) → IsScale s → high_variance s size l xs ≡ nat_lt l (16 * over (variance xs (size / 2)) s)
variance_below s size l xs h = sharp_below (variance xs (size / 2)) l s h

-- the error of a line by its level
pub distance_by_level : (s size l : ℕ) (xs ys : List ℤ) → IsScale s →
    line_distance size (line_at s size l xs) ys
    ≡ by_level (first_level s size xs) (16 * over (variance xs (size / 2)) s) (line_distance size xs ys) (line_distance size (moved_line s size true xs) ys) (line_distance size (moved_line s size false xs) ys) l
unfolding line_at
distance_by_level s size l xs ys h =
    rw (filtered_from s size l xs h, variance_below s size l xs h)
    (at (nat_le (first_level s size xs) l) (flat s size xs) (16 * over (variance xs (size / 2)) s)
    (if size == 6 then wide xs 3 2 1 3 else if flat_outside s size xs then wide xs 7 6 1 4 else wide xs (size / 2) 3 0 3) (λ b. narrow s (size / 2) b xs))
  where
    with_test : (lost : ℕ) (n : Bool → List ℤ) (b : Bool) → nat_le lost l ≡ b → line_distance size (n (nat_lt l lost)) ys ≡ (if nat_le lost l then line_distance size (n false) ys else line_distance size (n true) ys)
    with_test lost n true e =
        let f : nat_lt l lost ≡ false = grind (arith, nat_tests) in rw (e, f) refl
    with_test lost n false e =
        let f : nat_lt l lost ≡ true = grind (arith, nat_tests) in rw (e, f) refl

    same : (b : Bool) (n : ℕ) → n ≡ (if b then n else n)
    same true n = refl
    same false n = refl

    at : (a b : Bool) (lost : ℕ) (w : List ℤ) (n : Bool → List ℤ) →
        line_distance size (if a then (if b then w else n (nat_lt l lost)) else xs) ys
        ≡ (if a then (if nat_le lost l then line_distance size (if b then w else n false) ys else line_distance size (if b then w else n true) ys) else line_distance size xs ys)
    at true true lost w n = same (nat_le lost l) (line_distance size w ys)
    at true false lost w n = with_test lost n (nat_le lost l) refl
    at false b lost w n = refl

-- levels past 63 count as 64, and high variance that is lost before the line is filtered as lost there
pub capped_later : (from lost a b c l : ℕ) → l < 64 → by_level (min from 64) (max (min from 64) (min lost 64)) a b c l ≡ by_level from lost a b c l
capped_later from lost a b c l h = grind (arith, nat_tests)
