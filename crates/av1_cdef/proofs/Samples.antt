-- A tally of cells has the sum, the least and the greatest of the taps that the plane has.
use Rattle.std.proofs.Common.{◌≡◌, ℕ, ℤ, pos, negsuc, zero, suc, ◌+◌, ◌-◌, ◌*◌, ◌/◌, ◌%◌, ◌^◌, ◌<◌, ◌≤◌, min, max, List, get_or, refl, sym, ◌∙◌, ap, arith, lit<, inl, inr, ◌⊎◌, Bool, true, false}
use Rattle.std.specs.Prelude.{if◌then◌else◌, ◌==◌, nat_lt, ◌+ℤ◌, ◌-ℤ◌, ◌*ℤ◌, neg_ℤ, Option, Some, None}
use Rattle.std.specs.Int.{abs_diff, int_min, int_max, int_shr, is_negative}
use Rattle.std.specs.Int.RustNames.{unsigned_abs}
use Rattle.std.proofs.Math.Nat.{pow-le-pow_right, mul-le-mul}
use Rattle.std.proofs.lemmas.Nat.{le-div, pow_pos, pow-add}
use Rattle.std.proofs.lemmas.Int.{ints}
use Rattle.std.proofs.lemmas.Bool.{cases_lt, ne_eqb}
use Rattle.std.proofs.lemmas.Bool.Decides.{nat_tests}
use Rattle.av1_cdef.specs.Strength.{floor_log2, pull, with_sign}
use Rattle.av1_cdef.specs.Filter.{Tap, InRange, tap_pull, least_with, greatest_with, rounded_sum, tap_row, tap_column, primary_weight, taps_of, sum_of_taps, least_of_taps, greatest_of_taps, filtered_near}
use Rattle.av1_cdef.specs.declared.settings.Settings.{Settings}
use Rattle.av1_cdef.specs.Cells.{seen}
use Rattle.av1_cdef.specs.Tally.{counted, counted_pair, tallied, settled, filtered_cell, HasTaps}
use Rattle.av1_cdef.specs.declared.taps.Taps.{Taps}
use Rattle.av1_cdef.specs.declared.tally.Tally.{Tally}
use Rattle.av1_cdef.proofs.Logs.{log2_below}

-- the difference to a cell that the plane does not have pulls nothing
pub none_pulls : (x strength damping : ℕ) → x < 4096 → strength ≤ 240 → damping ≤ 10 → pull (0x8000 - x) strength (damping - floor_log2 strength) ≡ 0
none_pulls x strength damping lx ls ld = go (floor_log2 strength) (log2_below strength (omega arith))
  where
    go : (k : ℕ) → (k ≤ 7) × (strength < 2 * 2 ^ k) → pull (0x8000 - x) strength (damping - k) ≡ 0
    go k h =
        let small : k ≤ 7 = h.0 in
        let low : strength ≤ 2 * 2 ^ k = let l = h.1 in omega arith in
        let shift : 2 ^ (damping - k) ≤ 2 ^ (10 - k) = pow-le-pow_right {n = 2} (lit< tt) (omega arith) in
        let product : strength * 2 ^ (damping - k) ≤ 2 * 2 ^ k * 2 ^ (10 - k) = mul-le-mul low shift in
        let ten : k + (10 - k) ≡ 10 = omega arith in
        let power : 2 ^ k * 2 ^ (10 - k) ≡ 2 ^ 10 = sym (pow-add 2 k (10 - k)) ∙ ap (λ n. 2 ^ n) ten in
        let all : 2 * 2 ^ k * 2 ^ (10 - k) ≡ 2048 = grind arith in
        let positive : 0 < 2 ^ (damping - k) = pow_pos (damping - k) in
        let most : strength ≤ (0x8000 - x) / 2 ^ (damping - k) = le-div strength (0x8000 - x) (2 ^ (damping - k)) positive (omega arith) in
        omega arith

-- a tally, and what it stands for at a sample below 4096
pub record IsTally (t : Tally) (sum least greatest : ℤ) : Type 0 where
  pub total : pos t.up -ℤ pos t.down ≡ sum
  pub low : pos t.least ≡ least
  pub high : pos t.greatest ≡ greatest
  pub small : t.least < 4096

-- a cell is a sample below 4096 or the mark of a missing one
abbrev pub CellOk : ℕ → Type 0
CellOk c = (c < 4096) ⊎ (c ≡ 0x8000)

-- a weight times a negative pull is the negative of their product
times_neg : (w m : ℕ) → pos w *ℤ neg_ℤ (pos m) ≡ neg_ℤ (pos (w * m))
times_neg w zero = let z : w * 0 ≡ 0 = omega arith in rw z refl
times_neg w (suc m) = refl

-- a pull downwards alone moves the sum down
down_alone : (u d n : ℕ) (sum : ℤ) → pos u -ℤ pos d ≡ sum → pos (u + 0) -ℤ pos (d + n) ≡ sum +ℤ neg_ℤ (pos n)
down_alone u d n sum e = omega (arith, ints)

-- a pull upwards alone moves the sum up
up_alone : (u d n : ℕ) (sum : ℤ) → pos u -ℤ pos d ≡ sum → pos (u + n) -ℤ pos (d + 0) ≡ sum +ℤ pos n
up_alone u d n sum e = omega (arith, ints)

-- a difference is negative where the cell is below the sample
below_is : (x c : ℕ) → is_negative (pos c -ℤ pos x) ≡ nat_lt c x
below_is x c = grind (arith, ints, nat_tests)

-- a pull counts up or down by the sign of its difference
signed_pull : (x c w strength shift : ℕ) (t : Tally) (sum : ℤ) → pos t.up -ℤ pos t.down ≡ sum →
    (pos (t.up + w * pull (c - x) strength shift) -ℤ pos (t.down + w * pull (x - c) strength shift))
    ≡ sum +ℤ pos w *ℤ with_sign (pos c -ℤ pos x) (pull (abs_diff x c) strength shift)
signed_pull x c w strength shift t sum e = rw (below_is x c) (elim (cases_lt c x) [
  | inl l ↦
      let b : nat_lt c x ≡ true = grind (arith, nat_tests) in
      let p : pull (c - x) strength shift ≡ 0 = omega arith in
      let z : w * 0 ≡ 0 = omega arith in
      let s : abs_diff x c ≡ x - c = omega arith in
      rw (b, p, z, s) (rw (times_neg w (pull (x - c) strength shift)) (down_alone t.up t.down (w * pull (x - c) strength shift) sum e))
  | inr l ↦
      let b : nat_lt c x ≡ false = grind (arith, nat_tests) in
      let p : pull (x - c) strength shift ≡ 0 = omega arith in
      let z : w * 0 ≡ 0 = omega arith in
      let s : abs_diff x c ≡ c - x = omega arith in
      rw (b, p, z, s) (up_alone t.up t.down (w * pull (c - x) strength shift) sum e)
])

-- the size of a difference is the distance of a cell from the sample
distance_is : (x c : ℕ) → unsigned_abs (pos c -ℤ pos x) ≡ abs_diff x c
distance_is x c = grind (arith, ints)

-- counting one tap more keeps what a tally stands for
pub counted_is : (x c w strength damping shift : ℕ) (t : Tally) (sum least greatest : ℤ) (o : Option ℤ) → x < 4096 → CellOk c → strength ≤ 240 → damping ≤ 10 → shift ≡ damping - floor_log2 strength → seen c ≡ o
    → IsTally t sum least greatest → IsTally (counted t x c w strength shift) (sum +ℤ tap_pull damping (pos x) (record { sample = o; weight = w; strength = strength })) (least_with least o) (greatest_with greatest o)
unfolding counted
counted_is x c w strength damping shift t sum least greatest o lx (inl l) ls ld es eo h =
    let large : (c == 0x8000) ≡ false = ne_eqb c 0x8000 (λ e. omega arith) in
    let is : o ≡ Some (pos c) = sym eo ∙ (rw large refl) in
    rw (is, es) record {
      total = signed_pull x c w strength (damping - floor_log2 strength) t sum h.total ∙ (rw (distance_is x c) refl);
      low = rw (← h.low) (grind (arith, ints, nat_tests));
      high = rw (← h.high) (let kept : c % 0x8000 ≡ c = omega arith in rw kept (grind (arith, ints, nat_tests)));
      small = let s = h.small in omega arith;
    }
counted_is x c w strength damping shift t sum least greatest o lx (inr e) ls ld es eo h =
    let is : o ≡ None = sym eo ∙ (rw e refl) in
    let zero_pull = none_pulls x strength damping lx ls ld in
    rw (is, e, es, zero_pull) record {
      total = rw (← h.total) (let p : pull (x - 0x8000) strength (damping - floor_log2 strength) ≡ 0 = omega arith in let z : w * 0 ≡ 0 = omega arith in rw (p, z) (omega (arith, ints)));
      low = rw (← h.low) (let s = h.small in let e : min t.least 0x8000 ≡ t.least = omega arith in ap pos e);
      high = rw (← h.high) (let m : max t.greatest 0 ≡ t.greatest = omega arith in ap pos m);
      small = let s = h.small in omega arith;
    }

-- the cells near a sample are the samples near it
pub record AreSeen (cells : List ℕ) (at : ℕ) (near : ℕ → ℕ → Option ℤ) : Type 0 where
  pub inside : (r c : ℕ) → r ≤ 4 → c ≤ 4 → CellOk (get_or cells (at + (12 * r + c)) 0)
  pub each : (r c : ℕ) → r ≤ 4 → c ≤ 4 → seen (get_or cells (at + (12 * r + c)) 0) ≡ near r c

-- a tap by its sample, weight and strength
abbrev tap : Option ℤ → ℕ → ℕ → Tap
tap o w strength = record { sample = o; weight = w; strength = strength }

-- counting the two taps of a pair keeps what a tally stands for
pair_is : (cells : List ℕ) (at x place r c w strength damping shift : ℕ) (near : ℕ → ℕ → Option ℤ) (t : Tally) (sum least greatest : ℤ) → AreSeen cells at near → x < 4096 → r ≤ 4 → c ≤ 4 → place ≡ 12 * r + c
    → strength ≤ 240 → damping ≤ 10 → shift ≡ damping - floor_log2 strength → IsTally t sum least greatest
    → IsTally (counted_pair t cells at x place w strength shift)
    (sum +ℤ tap_pull damping (pos x) (tap (near r c) w strength) +ℤ tap_pull damping (pos x) (tap (near (4 - r) (4 - c)) w strength))
    (least_with (least_with least (near r c)) (near (4 - r) (4 - c))) (greatest_with (greatest_with greatest (near r c)) (near (4 - r) (4 - c)))
unfolding counted_pair
pair_is cells at x place r c w strength damping shift near t sum least greatest are lx lr lc e ls ld es h =
    let other : 52 - place ≡ 12 * (4 - r) + (4 - c) = omega arith in
    let first : seen (get_or cells (at + place) 0) ≡ near r c = rw e (are.each r c lr lc) in
    let second : seen (get_or cells (at + (52 - place)) 0) ≡ near (4 - r) (4 - c) = rw other (are.each (4 - r) (4 - c) (omega arith) (omega arith)) in
    let a : CellOk (get_or cells (at + place) 0) = rw e (are.inside r c lr lc) in
    let b : CellOk (get_or cells (at + (52 - place)) 0) = rw other (are.inside (4 - r) (4 - c) (omega arith) (omega arith)) in
    counted_is x _ w strength damping shift _ _ _ _ _ lx b ls ld es second
    (counted_is x _ w strength damping shift t sum least greatest _ lx a ls ld es first h)

-- a tap lies at most four rows down
row_most : (d k : ℕ) → tap_row d k ≤ 4
row_most d k = at (d == 0) (d == 1) (d == 2) (d == 3) (k == 0)
  where
    at : (a b c e f : Bool) → (if a then (if f then 1 else 0) else if b then (if f then 2 else 1) else if c then 2 else if e then (if f then 2 else 3) else if f then 3 else 4) ≤ 4
    at a b c e f = grind arith

-- a tap lies at most four columns right
column_most : (d k : ℕ) → tap_column d k ≤ 4
column_most d k = at (d == 5) (d == 6) (d == 7) (k == 0)
  where
    at : (a b c f : Bool) → (if a then (if f then 2 else 3) else if b then 2 else if c then (if f then 2 else 1) else if f then 3 else 4) ≤ 4
    at a b c f = grind arith

-- the tally of all taps has the sum, the least and the greatest of the definition
pub tallied_is : (cells : List ℕ) (at x : ℕ) (s : Settings) (t : Taps) (near : ℕ → ℕ → Option ℤ) → AreSeen cells at near → x < 4096 → InRange s → HasTaps s t
    → IsTally (tallied cells at x t) (sum_of_taps s.damping (pos x) (pos 0) (taps_of near s)) (least_of_taps (pos x) (taps_of near s)) (greatest_of_taps (pos x) (taps_of near s))
unfolding tallied
tallied_is cells at x s t near are lx r h =
    rw (h.primary_near, h.primary_far, h.right_near, h.right_far, h.left_near, h.left_far, h.near_weight, h.far_weight, h.primary, h.secondary)
    (pair_is cells at x _ (tap_row ((s.direction + 6) % 8) 1) (tap_column ((s.direction + 6) % 8) 1) 1 s.secondary s.damping _ near _ _ _ _ are lx (row_most ((s.direction + 6) % 8) 1) (column_most ((s.direction + 6) % 8) 1) refl r.secondary r.damping h.secondary_shift
    (pair_is cells at x _ (tap_row ((s.direction + 2) % 8) 1) (tap_column ((s.direction + 2) % 8) 1) 1 s.secondary s.damping _ near _ _ _ _ are lx (row_most ((s.direction + 2) % 8) 1) (column_most ((s.direction + 2) % 8) 1) refl r.secondary r.damping h.secondary_shift
    (pair_is cells at x _ (tap_row s.direction 1) (tap_column s.direction 1) (primary_weight s.primary s.scale 1) s.primary s.damping _ near _ _ _ _ are lx (row_most s.direction 1) (column_most s.direction 1) refl r.primary r.damping h.primary_shift
    (pair_is cells at x _ (tap_row ((s.direction + 6) % 8) 0) (tap_column ((s.direction + 6) % 8) 0) 2 s.secondary s.damping _ near _ _ _ _ are lx (row_most ((s.direction + 6) % 8) 0) (column_most ((s.direction + 6) % 8) 0) refl r.secondary r.damping h.secondary_shift
    (pair_is cells at x _ (tap_row ((s.direction + 2) % 8) 0) (tap_column ((s.direction + 2) % 8) 0) 2 s.secondary s.damping _ near _ _ _ _ are lx (row_most ((s.direction + 2) % 8) 0) (column_most ((s.direction + 2) % 8) 0) refl r.secondary r.damping h.secondary_shift
    (pair_is cells at x _ (tap_row s.direction 0) (tap_column s.direction 0) (primary_weight s.primary s.scale 0) s.primary s.damping _ near _ (pos 0) (pos x) (pos x) are lx (row_most s.direction 0) (column_most s.direction 0) refl r.primary r.damping h.primary_shift
    record { total = refl; low = refl; high = refl; small = lx }))))))

-- a sixteenth of a sum upwards is rounded as the definition rounds it
shifted_up : (d : ℕ) → int_shr (pos 8 +ℤ pos d -ℤ pos 0) 4 ≡ pos ((d + 8) / 16)
shifted_up d = let e : 8 + d + 0 ≡ d + 8 = omega arith in ap (λ n. pos (n / 16)) e

-- a sixteenth of a sum downwards is rounded as the definition rounds it
shifted_down : (d : ℕ) → 0 < d → int_shr (pos 8 +ℤ neg_ℤ (pos d) -ℤ pos 1) 4 ≡ neg_ℤ (pos ((d + 8) / 16))
shifted_down d l = elim (cases_lt d 8) [
  | inl few ↦
      let e : pos 8 +ℤ neg_ℤ (pos d) -ℤ pos 1 ≡ pos (7 - d) = omega (arith, ints) in
      let a : (7 - d) / 16 ≡ 0 = omega arith in
      let b : (d + 8) / 16 ≡ 0 = omega arith in
      rw (e, b) (rw a refl)
  | inr many ↦
      let e : pos 8 +ℤ neg_ℤ (pos d) -ℤ pos 1 ≡ negsuc (d - 8) = omega (arith, ints) in
      let b : (d + 8) / 16 ≡ suc ((d - 8) / 16) = omega arith in
      rw (e, b) refl
]

-- a sample that moves up is kept between the least and the greatest
clamped_up : (x m a b : ℕ) → pos (min (max (x + m) a) b) ≡ int_min (int_max (pos x +ℤ pos m) (pos a)) (pos b)
clamped_up x m a b = grind (arith, ints, nat_tests)

-- a sample that moves down is kept between the least and the greatest
clamped_down : (x m a b : ℕ) → pos (min (max (x - m) a) b) ≡ int_min (int_max (pos x +ℤ neg_ℤ (pos m)) (pos a)) (pos b)
clamped_down x m a b = grind (arith, ints, nat_tests)

-- the sample that a tally makes is the filtered sample
pub settled_is : (t : Tally) (x : ℕ) (sum least greatest : ℤ) → IsTally t sum least greatest
    → pos (settled t x) ≡ int_min (int_max (pos x +ℤ rounded_sum sum) least) greatest
settled_is t x sum least greatest h = rw (← h.low, ← h.high) (elim (cases_lt t.up t.down) [
  | inl l ↦
      let d = abs_diff t.up t.down in
      let is : sum ≡ neg_ℤ (pos d) = sym h.total ∙ (omega (arith, ints)) in
      let n : is_negative (neg_ℤ (pos d)) ≡ true = grind (arith, ints, nat_tests) in
      let r : rounded_sum sum ≡ neg_ℤ (pos ((d + 8) / 16)) = rw (is, n) (shifted_down d (omega arith)) in
      let b : nat_lt t.up t.down ≡ true = grind (arith, nat_tests) in
      rw (r, b) (clamped_down x ((d + 8) / 16) t.least t.greatest)
  | inr l ↦
      let d = abs_diff t.up t.down in
      let is : sum ≡ pos d = sym h.total ∙ (omega (arith, ints)) in
      let n : is_negative (pos d) ≡ false = grind (arith, ints, nat_tests) in
      let r : rounded_sum sum ≡ pos ((d + 8) / 16) = rw (is, n) (shifted_up d) in
      let b : nat_lt t.up t.down ≡ false = grind (arith, nat_tests) in
      rw (r, b) (clamped_up x ((d + 8) / 16) t.least t.greatest)
])

-- the filtered cell is the filtered sample
pub filtered_is : (cells : List ℕ) (at : ℕ) (s : Settings) (t : Taps) (near : ℕ → ℕ → Option ℤ) → AreSeen cells at near → get_or cells (at + 26) 0 < 4096 → InRange s → HasTaps s t
    → pos (filtered_cell cells at t) ≡ filtered_near near s (pos (get_or cells (at + 26) 0))
filtered_is cells at s t near are l r h =
    settled_is (tallied cells at (get_or cells (at + 26) 0) t) (get_or cells (at + 26) 0) _ _ _ (tallied_is cells at (get_or cells (at + 26) 0) s t near are l r h)
