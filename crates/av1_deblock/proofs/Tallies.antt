-- Entries of a tally, and their sums.
use Rattle.std.proofs.Common.{◌≡◌, ◌≢◌, ℕ, ℤ, pos, zero, suc, ◌+◌, ◌*◌, ◌<◌, ◌≤◌, true, false, List, length, get_or, arith, refl, ap, sym, ◌∙◌, if◌then◌else◌, max, nat_le, nat_lt, inl, inr, length-set}
use Rattle.std.specs.Prelude.{◌+ℤ◌, ◌-ℤ◌, ◌≤ℤ◌}
use Rattle.std.proofs.lemmas.Bool.{cases_eq}
use Rattle.std.proofs.lemmas.Bool.Decides.{nat_tests}
use Rattle.std.proofs.lemmas.List.{get_or-set_other}
use Rattle.std.proofs.lemmas.Grind.{get_or-set_at}
use Rattle.std.proofs.lemmas.Int.{ints}
use Rattle.std.proofs.Math.IntN.{+ℤ_assoc, +ℤ_comm, +ℤ_idl, +ℤ_idr}
use Rattle.av1_deblock.specs.Line.{sample, sum_below}
use Rattle.av1_deblock.specs.declared.profile.Profile.{Profile}
use Rattle.av1_deblock.specs.Errors.{by_level, raised, running, jumped, profile_error, HasLimits, IsBoundedBy, HasAdded}

-- the number v from level t on, and 0 below
abbrev pub from_on : ℤ → ℕ → ℕ → ℤ
from_on v t l = if nat_le t l then v else pos 0

-- the raised entry is the old one and v
raised_at : (es : List ℤ) (t i : ℕ) (v : ℤ) → t < length es → i ≡ t → get_or (raised es t v) i (pos 0) ≡ get_or es t (pos 0) +ℤ v
raised_at es t i v l e = get_or-set_at es t i (get_or es t (pos 0) +ℤ v) (pos 0) e l

-- an entry other than the raised one stays
raised_off : (es : List ℤ) (t i : ℕ) (v : ℤ) → i ≢ t → get_or (raised es t v) i (pos 0) ≡ get_or es i (pos 0)
raised_off es t i v d = get_or-set_other es t i (get_or es t (pos 0) +ℤ v) (pos 0) (λ f. d (omega arith))

-- the last two of three numbers change places
swap_last : (a b c : ℤ) → (a +ℤ b) +ℤ c ≡ (a +ℤ c) +ℤ b
swap_last a b c = +ℤ_assoc a b c ∙ ap (λ z. a +ℤ z) (+ℤ_comm b c) ∙ sym (+ℤ_assoc a c b)

-- a number that is added to a term is added to the sum
pushed : (s g v : ℤ) → (s +ℤ pos 0) +ℤ (g +ℤ v) ≡ (s +ℤ g) +ℤ v
pushed s g v = ap (λ z. z +ℤ (g +ℤ v)) (+ℤ_idr s) ∙ sym (+ℤ_assoc s g v)

-- a sum of entries with one raised is the sum, raised by as much where the entry is in it
sum_raised : (n t : ℕ) (es : List ℤ) (v : ℤ) → t < length es → sum_below n (sample (raised es t v)) ≡ sum_below n (sample es) +ℤ (if nat_lt t n then v else pos 0)
unfolding sum_below
sum_raised zero t es v l =
    let f : nat_lt t 0 ≡ false = grind (arith, nat_tests) in rw f (grind arith)
sum_raised (suc n) t es v l =
    let before = sum_raised n t es v l in
    elim (cases_eq n t) [
      | inl e ↦
          let not_yet : nat_lt t n ≡ false = grind (arith, nat_tests) in
          let now : nat_lt t (suc n) ≡ true = grind (arith, nat_tests) in
          let here = raised_at es t n v l e in
          let same : get_or es t (pos 0) ≡ get_or es n (pos 0) = ap (λ i. get_or es i (pos 0)) (sym e) in
          rw (before, not_yet, now, here, same) (pushed (sum_below n (sample es)) (get_or es n (pos 0)) v)
      | inr d ↦
          let still : nat_lt t (suc n) ≡ nat_lt t n = grind (arith, nat_tests) in
          rw (before, still, raised_off es t n v d) (swap_last (sum_below n (sample es)) (if nat_lt t n then v else pos 0) (get_or es n (pos 0)))
    ]

-- a number below the next of l is at most l
before_more : (t l : ℕ) → nat_lt t (suc l) ≡ nat_le t l
before_more t l = grind (arith, nat_tests)

-- a running sum with one entry raised is raised from this entry's level on
running_raised : (t l : ℕ) (es : List ℤ) (v : ℤ) → t < length es → running (raised es t v) l ≡ running es l +ℤ from_on v t l
running_raised t l es v h = sum_raised (suc l) t es v h ∙ ap (λ b. running es l +ℤ (if b then v else pos 0)) (before_more t l)

-- the sum of two numbers above bounds is above the sum of the bounds
lower : (n m : ℕ) (g v : ℤ) → (pos 0 -ℤ pos m) ≤ℤ v → (pos 0 -ℤ pos n) ≤ℤ g → (pos 0 -ℤ pos (n + m)) ≤ℤ (g +ℤ v)
lower n m g v h k = omega (arith, ints)

-- the sum of two numbers within bounds is within the sum of the bounds
upper : (n m : ℕ) (g v : ℤ) → v ≤ℤ pos m → g ≤ℤ pos n → (g +ℤ v) ≤ℤ pos (n + m)
upper n m g v h k = omega (arith, ints)

-- a number above a lower bound is above every lower one
lower_same : (n m : ℕ) (g : ℤ) → (pos 0 -ℤ pos n) ≤ℤ g → (pos 0 -ℤ pos (n + m)) ≤ℤ g
lower_same n m g k = omega (arith, ints)

-- a number below an upper bound is below every greater one
upper_same : (n m : ℕ) (g : ℤ) → g ≤ℤ pos n → g ≤ℤ pos (n + m)
upper_same n m g k = omega (arith, ints)

-- entries stay within a bound that moves by as much
pub near_raised : (n m t : ℕ) (es : List ℤ) (v : ℤ) → t < length es → (pos 0 -ℤ pos m) ≤ℤ v → v ≤ℤ pos m → IsBoundedBy n es → IsBoundedBy (n + m) (raised es t v)
near_raised n m t es v l low high h = record {
  low = λ i. elim (cases_eq i t) [
    | inl e ↦ rw (raised_at es t i v l e) (lower n m (get_or es t (pos 0)) v low (h.low t))
    | inr d ↦ rw (raised_off es t i v d) (lower_same n m _ (h.low i))
  ];
  high = λ i. elim (cases_eq i t) [
    | inl e ↦ rw (raised_at es t i v l e) (upper n m (get_or es t (pos 0)) v high (h.high t))
    | inr d ↦ rw (raised_off es t i v d) (upper_same n m _ (h.high i))
  ];
}

-- entries within a bound are within a greater one
pub near_wider : (n m : ℕ) (es : List ℤ) → n ≤ m → IsBoundedBy n es → IsBoundedBy m es
near_wider n m es l h = record {
  low = λ i. grind (arith, h.low i);
  high = λ i. grind (arith, h.high i);
}

-- the error below the first level and the jumps at both levels sum to the value at a level
jumps : (a b c : ℕ) (from lost l : ℕ) → from ≤ lost → (pos a +ℤ from_on (pos b -ℤ pos a) from l) +ℤ from_on (pos c -ℤ pos b) lost l ≡ pos (by_level from lost a b c l)
jumps a b c from lost l h = grind (arith, nat_tests)

-- one of two numbers that were added becomes another one by two jumps
moved : (r a b : ℤ) (u e rest : ℕ) → (pos u +ℤ a) +ℤ b ≡ pos e → ((r +ℤ pos (u + rest)) +ℤ a) +ℤ b ≡ (r +ℤ pos e) +ℤ pos rest
moved r a b u e rest h = omega (arith, ints)

-- a running sum with the jumps of a profile added is raised by them
running_jumped : (es : List ℤ) (p : Profile) (l : ℕ) → length es ≡ 65 → HasLimits p → running (jumped es p) l ≡ (running es l +ℤ from_on (pos p.high -ℤ pos p.unfiltered) p.from l) +ℤ from_on (pos p.low -ℤ pos p.high) p.lost l
running_jumped es p l long k =
    let long1 = length-set es p.from (sample es p.from +ℤ (pos p.high -ℤ pos p.unfiltered)) ∙ long in
    running_raised p.lost l (raised es p.from (pos p.high -ℤ pos p.unfiltered)) (pos p.low -ℤ pos p.high) (rw long1 (omega (arith, k.lost)))
    ∙ ap (λ z. z +ℤ from_on (pos p.low -ℤ pos p.high) p.lost l) (running_raised p.from l es (pos p.high -ℤ pos p.unfiltered) (omega (arith, k.from)))

-- the error of a line that was added unfiltered, among others, becomes its error at the level by its jumps
pub line_moved : (es old : List ℤ) (p : Profile) (l rest before : ℕ) → length es ≡ 65 → HasLimits p → running es l ≡ (running old l +ℤ pos before) +ℤ pos (p.unfiltered + rest) →
    running (jumped es p) l ≡ (running old l +ℤ pos (before + profile_error p l)) +ℤ pos rest
line_moved es old p l rest before long k h =
    running_jumped es p l long k
    ∙ ap (λ z. (z +ℤ from_on (pos p.high -ℤ pos p.unfiltered) p.from l) +ℤ from_on (pos p.low -ℤ pos p.high) p.lost l) h
    ∙ moved (running old l +ℤ pos before) _ _ p.unfiltered (profile_error p l) rest (jumps p.unfiltered p.high p.low p.from p.lost l k.order)
    ∙ ap (λ z. z +ℤ pos rest) (+ℤ_assoc (running old l) (pos before) (pos (profile_error p l)))

-- a jump at level 0 is there at every level
from_first : (v : ℤ) (l : ℕ) → from_on v 0 l ≡ v
from_first v l = grind (arith, nat_tests)

-- the sum of four numbers, grouped from the right
grouped : (r : ℤ) (a b c d : ℕ) → r +ℤ pos (a + b + c + d) ≡ (r +ℤ pos 0) +ℤ pos (a + (b + (c + (d + 0))))
grouped r a b c d = omega (arith, ints)

-- a sum with nothing more to add
ended : (r : ℤ) (a b c d : ℕ) → (r +ℤ pos (0 + a + b + c + d)) +ℤ pos 0 ≡ r +ℤ pos (a + b + c + d)
ended r a b c d = omega (arith, ints)

-- the jumps of a profile move the bounds by twice its greatest error
pub near_jumped : (n : ℕ) (es : List ℤ) (p : Profile) → length es ≡ 65 → HasLimits p → IsBoundedBy n es → IsBoundedBy (n + 536870912) (jumped es p)
near_jumped n es p long k h =
    let long1 = length-set es p.from (sample es p.from +ℤ (pos p.high -ℤ pos p.unfiltered)) ∙ long in
    near_wider (n + 268435456 + 268435456) (n + 536870912) _ (omega arith)
    (near_raised (n + 268435456) 268435456 p.lost (raised es p.from (pos p.high -ℤ pos p.unfiltered)) (pos p.low -ℤ pos p.high) (rw long1 (omega (arith, k.lost))) (grind (arith, k.high, k.low)) (grind (arith, k.high, k.low))
    (near_raised n 268435456 p.from es (pos p.high -ℤ pos p.unfiltered) (omega (arith, k.from)) (grind (arith, k.high, k.unfiltered)) (grind (arith, k.high, k.unfiltered)) h))

-- the jumps of a profile leave the number of entries
pub long_jumped : (es : List ℤ) (p : Profile) → length es ≡ 65 → length (jumped es p) ≡ 65
long_jumped es p long = length-set _ _ _ ∙ length-set _ _ _ ∙ long

-- an error of a profile is at most the greatest of its errors
error_within : (p : Profile) (l : ℕ) → HasLimits p → profile_error p l ≤ 268435456
error_within p l k = grind (arith, nat_tests, k.unfiltered, k.high, k.low)

-- adding the unfiltered errors of four lines, and then the jumps of each, adds the error of each at each level
pub four_added : (old : List ℤ) (p q r s : Profile) → length old ≡ 65 → HasLimits p → HasLimits q → HasLimits r → HasLimits s →
    HasAdded 4294967296 (λ l. profile_error p l + profile_error q l + profile_error r l + profile_error s l) old
    (jumped (jumped (jumped (jumped (raised old 0 (pos (p.unfiltered + q.unfiltered + r.unfiltered + s.unfiltered))) p) q) r) s)
four_added old p q r s long kp kq kr ks = record {
  long = long4 ∙ sym long;
  sums = λ l h.
      let start : running es l ≡ (running old l +ℤ pos 0) +ℤ pos (p.unfiltered + (q.unfiltered + (r.unfiltered + (s.unfiltered + 0)))) =
      running_raised 0 l old (pos total) (omega arith) ∙ ap (λ z. running old l +ℤ z) (from_first (pos total) l) ∙ grouped (running old l) p.unfiltered q.unfiltered r.unfiltered s.unfiltered in
      let one = line_moved es old p l (q.unfiltered + (r.unfiltered + (s.unfiltered + 0))) 0 long0 kp start in
      let two = line_moved (jumped es p) old q l (r.unfiltered + (s.unfiltered + 0)) (0 + profile_error p l) long1 kq one in
      let three = line_moved (jumped (jumped es p) q) old r l (s.unfiltered + 0) (0 + profile_error p l + profile_error q l) long2 kr two in
      line_moved (jumped (jumped (jumped es p) q) r) old s l 0 (0 + profile_error p l + profile_error q l + profile_error r l) long3 ks three
      ∙ ended (running old l) (profile_error p l) (profile_error q l) (profile_error r l) (profile_error s l);
  small = λ l h. omega (arith, error_within p l kp, error_within q l kq, error_within r l kr, error_within s l ks);
  near = λ n h.
      near_wider (n + 1073741824 + 536870912 + 536870912 + 536870912 + 536870912) (n + 4294967296) _ (omega arith)
      (near_jumped _ _ s long3 ks (near_jumped _ _ r long2 kr (near_jumped _ _ q long1 kq (near_jumped _ _ p long0 kp
      (near_raised n 1073741824 0 old (pos total) (omega arith) (grind arith) (grind (arith, kp.unfiltered, kq.unfiltered, kr.unfiltered, ks.unfiltered)) h)))));
}
  where
    total : ℕ
    total = p.unfiltered + q.unfiltered + r.unfiltered + s.unfiltered

    es : List ℤ
    es = raised old 0 (pos (p.unfiltered + q.unfiltered + r.unfiltered + s.unfiltered))

    long0 : length (raised old 0 (pos (p.unfiltered + q.unfiltered + r.unfiltered + s.unfiltered))) ≡ 65
    long0 = length-set old 0 _ ∙ long

    long1 : length (jumped es p) ≡ 65
    long1 = long_jumped es p long0

    long2 : length (jumped (jumped es p) q) ≡ 65
    long2 = long_jumped _ q long1

    long3 : length (jumped (jumped (jumped es p) q) r) ≡ 65
    long3 = long_jumped _ r long2

    long4 : length (jumped (jumped (jumped (jumped es p) q) r) s) ≡ 65
    long4 = long_jumped _ s long3

-- adding nothing leaves the entries as they are
pub added_none : (es : List ℤ) → HasAdded 0 (λ l. 0) es es
added_none es = record { long = refl; sums = λ l h. grind arith; small = λ l h. omega arith; near = λ m h. near_wider m (m + 0) es (omega arith) h }

-- adding one function and then another adds their sum
pub added_more : (m n : ℕ) (f g : ℕ → ℕ) (a b c : List ℤ) → HasAdded m f a b → HasAdded n g b c → HasAdded (m + n) (λ l. f l + g l) a c
added_more m n f g a b c h k = record {
  long = k.long ∙ h.long;
  sums = λ l i. k.sums l i ∙ ap (λ z. z +ℤ pos (g l)) (h.sums l i) ∙ +ℤ_assoc (running a l) (pos (f l)) (pos (g l));
  small = λ l i. omega (arith, h.small l i, k.small l i);
  near = λ p i. near_wider (p + m + n) (p + (m + n)) c (omega arith) (k.near (p + m) (h.near p i));
}

-- adding a function is adding an equal one, under any greater bound
pub added_as : (m n : ℕ) (f g : ℕ → ℕ) (a b : List ℤ) → m ≤ n → ((l : ℕ) → l < 64 → f l ≡ g l) → HasAdded m f a b → HasAdded n g a b
added_as m n f g a b l e h = record {
  long = h.long;
  sums = λ i j. h.sums i j ∙ ap (λ k. running a i +ℤ pos k) (e i j);
  small = λ i j. omega (arith, h.small i j, e i j);
  near = λ p i. near_wider (p + m) (p + n) b (omega arith) (h.near p i);
}
