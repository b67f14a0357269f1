-- Tests of the samples of a tile.
use Rattle.std.proofs.Common.{◌≡◌, ℕ, ℤ, pos, negsuc, ◌+◌, ◌<◌, ◌≤◌, ◌≤ℤ◌, length, get_or, Bool, true, false, true≢false, refl, sym, ap, ◌∙◌, subst, arith, zero-add, below_more}
use Rattle.std.specs.Prelude.{nat_lt, ◌&&◌, ◌^◌, ◌%◌, unsigned_abs}
use Rattle.std.specs.List.{list_all, range_with_len}
use Rattle.std.proofs.lemmas.Bool.Decides.{nat_tests}
use Rattle.std.proofs.lemmas.Int.{ints}
use Rattle.std.proofs.Math.Nat.{mod-eq_of_lt, pow-le-pow_right}
use Rattle.av1_plane.specs.Layout.{frame_layout}
use Rattle.std.proofs.lemmas.List.FromFn.{length-range_with_len, get_or-range_with_len}
use Rattle.std.proofs.lemmas.List.Sums.{AllPass-from_list_all, list_all-from_AllPass}
use Rattle.std.proofs.lemmas.List.Folds.{list_all_at}
use Rattle.av1_plane.specs.Numbers.{InDepth}
use Rattle.av1_plane.specs.Layout.{at}
use Rattle.av1_plane.specs.declared.three.Three.{Three}
use Rattle.av1_plane.specs.declared.plane.PlaneConfig.{PlaneConfig}
use Rattle.av1_tiling.specs.Views.{Part}
use Rattle.av1_tiling.specs.Frames.{Parameters}
use Rattle.av1_frame.specs.Coding.{in_depth, inner_columns, inner_rows, is_row_in_depth, is_part_in_depth, are_in_depth}
use Rattle.av1_frame.specs.Valid.{IsPartInDepth, AreInDepth}

-- number k of the range from 0 on is k
number_at : (n k d : ℕ) → k < n → get_or (range_with_len 0 n) k d ≡ k
number_at n k d l = get_or-range_with_len 0 n k d l ∙ zero-add k

-- a test of the range below n that holds is passed by each number below n
all_below : (test : ℕ → Bool) (n : ℕ) → list_all test (range_with_len 0 n) ≡ true → (k : ℕ) → k < n → test k ≡ true
all_below test n e k l =
    let long = length-range_with_len 0 n in
    subst (λ (i : ℕ). test i ≡ true) (number_at n k 0 l) (AllPass-from_list_all test (range_with_len 0 n) e k 0 (omega arith))

-- A test that each number below n passes holds of all numbers of the range.
below_all : (test : ℕ → Bool) (n : ℕ) → ((k : ℕ) → k < n → test k ≡ true) → list_all test (range_with_len 0 n) ≡ true
below_all test n each =
    let long = length-range_with_len 0 n in
    list_all-from_AllPass test (range_with_len 0 n) (λ k d l. let below : k < n = omega arith in subst (λ (i : ℕ). test i ≡ true) (sym (number_at n k d below)) (each k below))

-- one number more passes a test of a range
pub one_passes : (test : ℕ → Bool) (n : ℕ) → list_all test (range_with_len 0 n) ≡ true → test n ≡ true → list_all test (range_with_len 0 (n + 1)) ≡ true
one_passes test n e here = below_all test (n + 1) (below_more (λ (k : ℕ). test k ≡ true) n (all_below test n e) here)

-- a range in which one number fails a test fails the test
pub one_fails : (test : ℕ → Bool) (n k : ℕ) → k < n → test k ≡ false → list_all test (range_with_len 0 n) ≡ false
one_fails test n k l e =
    let long = length-range_with_len 0 n in
    list_all_at test (range_with_len 0 n) k 0 (omega arith) (subst (λ (i : ℕ). test i ≡ false) (sym (number_at n k 0 l)) e)

-- Numbers in depth.

-- A number that passes the test of its depth is in depth.
deep_of : (bound : ℕ) (z : ℤ) → in_depth bound z ≡ true → InDepth bound z
deep_of bound (pos n) e = let l : n < bound = grind (arith, nat_tests) in (omega (arith, ints), omega (arith, ints))
deep_of bound (negsuc n) e = absurd (true≢false (sym e))

-- A number in depth passes the test of its depth.
of_deep : (bound : ℕ) (z : ℤ) → InDepth bound z → in_depth bound z ≡ true
of_deep bound (pos n) h = let high = h.1 in let l : n < bound = omega (arith, ints) in grind (arith, nat_tests)
of_deep bound (negsuc n) h = let low = h.0 in absurd (omega (arith, ints))

-- a number that isn't negative is in depth where its size is below the bound
pub by_size : (bound : ℕ) (z : ℤ) → pos 0 ≤ℤ z → nat_lt (unsigned_abs z) bound ≡ in_depth bound z
by_size bound (pos n) l = refl
by_size bound (negsuc n) l = absurd (omega (arith, ints))

-- a small power of two is the same number in 32 bits
pub small_power : (n : ℕ) → n ≤ 12 → 2 ^ n % 4294967296 ≡ 2 ^ n
small_power n l =
    let most : 2 ^ n ≤ 2 ^ 12 = pow-le-pow_right {n = 2} (omega arith) l in
    let below : 2 ^ n < 4294967296 = omega arith in
    mod-eq_of_lt below

-- The samples of a tile.

-- A part that passes the test of its samples has them in depth.
part_of : (bound : ℕ) (cfg : PlaneConfig) (part : Part ℤ) → is_part_in_depth bound cfg part ≡ true → IsPartInDepth bound cfg part
part_of bound cfg part e x y lx ly =
    let row = all_below (is_row_in_depth bound (inner_columns cfg part) part) (inner_rows cfg part) e y ly in
    deep_of bound (at part.entries part.rect.width x y) (all_below (λ i. in_depth bound (at part.entries part.rect.width i y)) (inner_columns cfg part) row x lx)

-- A part with its samples in depth passes the test of its samples.
of_part : (bound : ℕ) (cfg : PlaneConfig) (part : Part ℤ) → IsPartInDepth bound cfg part → is_part_in_depth bound cfg part ≡ true
of_part bound cfg part h =
    below_all (is_row_in_depth bound (inner_columns cfg part) part) (inner_rows cfg part)
    (λ y ly. below_all (λ i. in_depth bound (at part.entries part.rect.width i y)) (inner_columns cfg part) (λ x lx. of_deep bound (at part.entries part.rect.width x y) (h x y lx ly)))

-- three tests that hold together hold each
three : (a b c : Bool) → (a && (b && c)) ≡ true → (a ≡ true) × ((b ≡ true) × (c ≡ true))
three true true true e = (refl, (refl, refl))
three true true false e = absurd (true≢false (sym e))
three true false c e = absurd (true≢false (sym e))
three false b c e = absurd (true≢false (sym e))

-- Three tests that hold each hold together.
three_of : (a b c : Bool) → a ≡ true → b ≡ true → c ≡ true → (a && (b && c)) ≡ true
three_of a b c ea eb ec = λ i. ea i && (eb i && ec i)

-- The parts of three planes that pass the test of their samples have them in depth.
pub parts_of : (p : Parameters) (parts : Three (Part ℤ)) → are_in_depth p parts ≡ true → AreInDepth p parts
parts_of p parts e =
    let bound = 2 ^ p.sequence.bit_depth in
    let layout = frame_layout p.width p.height p.sequence.chroma_sampling in
    let each = three (is_part_in_depth bound layout.y parts.y) (is_part_in_depth bound layout.u parts.u) (is_part_in_depth bound layout.v parts.v) e in
    record { y = part_of bound layout.y parts.y each.0; u = part_of bound layout.u parts.u each.1.0; v = part_of bound layout.v parts.v each.1.1 }

-- The parts of three planes with samples in depth pass the test of their samples.
pub of_parts : (p : Parameters) (parts : Three (Part ℤ)) → AreInDepth p parts → are_in_depth p parts ≡ true
of_parts p parts h =
    let bound = 2 ^ p.sequence.bit_depth in
    let layout = frame_layout p.width p.height p.sequence.chroma_sampling in
    three_of (is_part_in_depth bound layout.y parts.y) (is_part_in_depth bound layout.u parts.u) (is_part_in_depth bound layout.v parts.v)
    (of_part bound layout.y parts.y h.y) (of_part bound layout.u parts.u h.u) (of_part bound layout.v parts.v h.v)
