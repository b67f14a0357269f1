-- Errors of lines and of edges.
use Rattle.std.proofs.Common.{◌≡◌, ℕ, ℤ, suc, ◌+◌, ◌*◌, ◌<◌, ◌≤◌, ◌^◌, List, length, arith, refl, add-one, ap}
use Rattle.av1_plane.specs.Numbers.{Below}
use Rattle.av1_deblock.specs.declared.profile.Profile.{Profile}
use Rattle.av1_deblock.specs.Errors.{squares, square_at, line_distance, IsProfile, profile_of, HasProfiles, marks_error, cells_error}
use Rattle.av1_deblock.specs.Columns.{column}
use Rattle.std.proofs.lemmas.Bool.{cases_eq}
use Rattle.av1_deblock.specs.Thresholds.{greatest_step, IsScale, over, first_level, variance, moved_line}
use Rattle.av1_deblock.specs.Line.{distance, before, after}
use Rattle.std.proofs.Common.{◌≢◌, inl, inr, subst, lit<, ◌-◌, max, min, Bool, if◌then◌else◌, true, false, sym, ◌∙◌, ◌/◌}
use Rattle.av1_deblock.proofs.Thresholds.{capped_later, distance_by_level}

-- the sum over no places is 0
pub squares_none : (xs ys : List ℤ) (from : ℕ) → squares xs ys from 0 ≡ 0
unfolding squares
squares_none xs ys from = refl

-- one place more adds its squared distance to the sum
pub squares_more : (xs ys : List ℤ) (from n : ℕ) → squares xs ys from (n + 1) ≡ squares xs ys from n + square_at xs ys (from + n)
unfolding squares
squares_more xs ys from n = rw add-one refl

pub ruleset sums = (squares_none, squares_more)

-- the greatest of no steps is 0
pub step_none : (xs : List ℤ) (half : ℕ) → greatest_step xs half 0 ≡ 0
unfolding greatest_step
step_none xs half = refl

-- one step more raises the greatest step to its own size, where its own is greater
pub step_more : (xs : List ℤ) (half n : ℕ) → greatest_step xs half (n + 1) ≡ max (greatest_step xs half n) (max (distance (before xs half (n + 1)) (before xs half n)) (distance (after xs half (n + 1)) (after xs half n)))
unfolding greatest_step
step_more xs half n = let e : n + 1 ≡ suc n = omega arith in ap (greatest_step xs half) e

pub ruleset steps = (step_none, step_more)

-- numbers below a bound are below every greater bound
pub below_wider : (a b : ℕ) (xs : List ℤ) → a ≤ b → Below a xs → Below b xs
below_wider a b xs l h = record { each = λ k d i. let r = h.each k d i in (r.0, grind arith) }

-- a line's distances and errors give its error at each level
pub profile_from : (s size : ℕ) (xs ys : List ℤ) (p : Profile) → IsScale s →
    p.unfiltered ≡ line_distance size xs ys → p.from ≡ min (first_level s size xs) 64 → p.high ≡ line_distance size (moved_line s size true xs) ys →
    p.lost ≡ max (min (first_level s size xs) 64) (min (16 * over (variance xs (size / 2)) s) 64) → p.low ≡ line_distance size (moved_line s size false xs) ys →
    p.unfiltered ≤ 268435456 → p.high ≤ 268435456 → p.low ≤ 268435456 → IsProfile s size xs ys p
profile_from s size xs ys p k a f b l c la lb lc = record {
  each = λ level h. rw (a, f, b, l, c) (capped_later (first_level s size xs) (16 * over (variance xs (size / 2)) s) _ _ _ level h ∙ sym (distance_by_level s size level xs ys k));
  limits = record {
    from = rw f (omega arith);
    order = rw (f, l) (omega arith);
    lost = rw l (omega arith);
    unfiltered = la;
    high = lb;
    low = lc;
  };
}

-- the error of a line that is one of two is one of their errors
pub errors_of : (n : ℕ) (b : Bool) (w m ys : List ℤ) (e f r : ℕ) → (b ≡ true → e ≡ line_distance n w ys) → f ≡ line_distance n m ys → r ≡ (if b then e else f) → r ≡ line_distance n (if b then w else m) ys
errors_of n true w m ys e f r he hf h = h ∙ he refl
errors_of n false w m ys e f r he hf h = h ∙ hf

-- profiles, line by line

-- the marks are the profiles of no line yet
pub profiles_none : (s size : ℕ) (cells source : List ℤ) (marks : List ℕ) → length marks ≡ 20 → HasProfiles s size 0 cells source marks
profiles_none s size cells source marks h = record { long = h; each = λ k l. absurd (omega arith) }

-- one line more adds its profile to those of the lines before
pub profiles_more : (s size n : ℕ) (cells source : List ℤ) (old new : List ℕ) (p : Profile) → n < 4 → length new ≡ 20 → profile_of new n ≡ p →
    ((i : ℕ) → i < 4 → i ≢ n → profile_of new i ≡ profile_of old i) → IsProfile s size (column cells n size) (column source n size) p → HasProfiles s size n cells source old → HasProfiles s size (n + 1) cells source new
profiles_more s size n cells source old new p l h e f g k = record {
  long = h;
  each = λ i li. elim (cases_eq i n) [
    | inl same ↦ subst (λ j. IsProfile s size (column cells j size) (column source j size) (profile_of new j)) (sym same) (rw e g)
    | inr other ↦ rw (f i (omega arith) other) (k.each i (omega arith))
  ];
}

pub ruleset profiles = (profiles_none, profiles_more)

-- the errors of four lines by their profiles
pub marks_are : (bd size : ℕ) (cells source : List ℤ) (marks : List ℕ) (level : ℕ) → level < 64 → HasProfiles (2 ^ (bd - 8)) size 4 cells source marks → marks_error marks level ≡ cells_error bd size cells source level
unfolding cells_error
marks_are bd size cells source marks level l h =
    rw ((h.each 0 (lit< tt)).each level l, (h.each 1 (lit< tt)).each level l, (h.each 2 (lit< tt)).each level l, (h.each 3 (lit< tt)).each level l) refl
