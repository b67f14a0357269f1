-- The rule of restoration units and its test.
use Rattle.std.proofs.Common.{◌≡◌, ℕ, ℤ, pos, neg_ℤ, ◌<◌, ◌≤ℤ◌, List, All, get_or, Bool, true, false, ◌&&◌, nat_lt, int_le, true≢false, refl, sym, arith}
use Rattle.std.specs.List.{slice_index_or, list_all}
use Rattle.std.proofs.lemmas.Bool.Decides.{nat_tests}
use Rattle.std.proofs.lemmas.List.Sums.{AllPass-from_list_all, list_all-from_AllPass}
use Rattle.av1_plane.specs.declared.three.Three.{Three}
use Rattle.av1_block.specs.declared.restoration_unit.RestorationFilter.{RestorationFilter}
use Rattle.av1_block.specs.declared.restoration_unit.RestorationFilter.TheVariants.{None, Wiener, Sgrproj}
use Rattle.av1_block.specs.declared.restoration_unit.RestorationUnit.{RestorationUnit}
use Rattle.av1_tiling.specs.Restoration.{AreCoeffs, ArePassWeights, IsFilter, IsUnit, down_coeffs, across_coeffs}
use Rattle.av1_tiling.specs.Views.{Part}
use Rattle.av1_frame.specs.Units.{is_between, are_coeffs, are_weights, is_filter, is_unit, are_units}
use Rattle.av1_frame.specs.Valid.{AreUnitParts}

-- two tests that hold together hold each
two : (a b : Bool) → (a && b) ≡ true → (a ≡ true) × (b ≡ true)
two true true e = (refl, refl)
two true false e = absurd (true≢false (sym e))
two false b e = absurd (true≢false (sym e))

-- Two tests that hold each hold together.
two_of : (a b : Bool) → a ≡ true → b ≡ true → (a && b) ≡ true
two_of a b ea eb = λ i. ea i && eb i

-- a number that passes the test of two bounds lies between them
between : (low high n : ℤ) → is_between low high n ≡ true → (low ≤ℤ n) × (n ≤ℤ high)
between low high n e =
    let each = two (int_le low n) (int_le n high) e in
    let left = each.0 in
    let right = each.1 in
    (grind (arith, left, nat_tests), grind (arith, right, nat_tests))

-- A number between two bounds passes the test of the bounds.
of_between : (low high n : ℤ) → low ≤ℤ n → n ≤ℤ high → is_between low high n ≡ true
of_between low high n left right = two_of (int_le low n) (int_le n high) (grind (arith, left, nat_tests)) (grind (arith, right, nat_tests))

-- coefficients that pass their test are Wiener coefficients that a bitstream can describe
coeffs_true : (cs : List ℤ) → are_coeffs cs ≡ true → AreCoeffs cs
coeffs_true cs e =
    let a = slice_index_or cs 0 (pos 0) in
    let b = slice_index_or cs 1 (pos 0) in
    let c = slice_index_or cs 2 (pos 0) in
    let first = two (is_between (neg_ℤ (pos 5)) (pos 10) a) (is_between (neg_ℤ (pos 23)) (pos 8) b && is_between (neg_ℤ (pos 17)) (pos 46) c) e in
    let others = two (is_between (neg_ℤ (pos 23)) (pos 8) b) (is_between (neg_ℤ (pos 17)) (pos 46) c) first.1 in
    let x = between (neg_ℤ (pos 5)) (pos 10) a first.0 in
    let y = between (neg_ℤ (pos 23)) (pos 8) b others.0 in
    let z = between (neg_ℤ (pos 17)) (pos 46) c others.1 in
    record { a_low = x.0; a_high = x.1; b_low = y.0; b_high = y.1; c_low = z.0; c_high = z.1 }

-- Wiener coefficients that a bitstream can describe pass their test.
coeffs_of : (cs : List ℤ) → AreCoeffs cs → are_coeffs cs ≡ true
coeffs_of cs h =
    let a = slice_index_or cs 0 (pos 0) in
    let b = slice_index_or cs 1 (pos 0) in
    let c = slice_index_or cs 2 (pos 0) in
    two_of (is_between (neg_ℤ (pos 5)) (pos 10) a) (is_between (neg_ℤ (pos 23)) (pos 8) b && is_between (neg_ℤ (pos 17)) (pos 46) c)
    (of_between (neg_ℤ (pos 5)) (pos 10) a h.a_low h.a_high)
    (two_of (is_between (neg_ℤ (pos 23)) (pos 8) b) (is_between (neg_ℤ (pos 17)) (pos 46) c)
    (of_between (neg_ℤ (pos 23)) (pos 8) b h.b_low h.b_high) (of_between (neg_ℤ (pos 17)) (pos 46) c h.c_low h.c_high))

-- weights that pass their test are self-guided weights that a bitstream can describe
weights_true : (xqd : List ℤ) → are_weights xqd ≡ true → ArePassWeights xqd
weights_true xqd e =
    let a = slice_index_or xqd 0 (pos 0) in
    let b = slice_index_or xqd 1 (pos 0) in
    let each = two (is_between (neg_ℤ (pos 96)) (pos 31) a) (is_between (neg_ℤ (pos 32)) (pos 95) b) e in
    let x = between (neg_ℤ (pos 96)) (pos 31) a each.0 in
    let y = between (neg_ℤ (pos 32)) (pos 95) b each.1 in
    record { first_low = x.0; first_high = x.1; second_low = y.0; second_high = y.1 }

-- Self-guided weights that a bitstream can describe pass their test.
weights_of : (xqd : List ℤ) → ArePassWeights xqd → are_weights xqd ≡ true
weights_of xqd h =
    let a = slice_index_or xqd 0 (pos 0) in
    let b = slice_index_or xqd 1 (pos 0) in
    two_of (is_between (neg_ℤ (pos 96)) (pos 31) a) (is_between (neg_ℤ (pos 32)) (pos 95) b)
    (of_between (neg_ℤ (pos 96)) (pos 31) a h.first_low h.first_high) (of_between (neg_ℤ (pos 32)) (pos 95) b h.second_low h.second_high)

-- a set whose number passes its test is one of 16
few_sets : (set : ℕ) → nat_lt set 16 ≡ true → set < 16
few_sets set e = grind (arith, nat_tests)

-- The number of a set below 16 passes its test.
few_sets_of : (set : ℕ) → set < 16 → nat_lt set 16 ≡ true
few_sets_of set l = grind (arith, nat_tests)

-- a filter that passes its test is one that a bitstream can describe
filter_true : (f : RestorationFilter) → is_filter f ≡ true → IsFilter f
filter_true None e = tt
filter_true (Wiener coeffs) e =
    let each = two (are_coeffs (down_coeffs coeffs)) (are_coeffs (across_coeffs coeffs)) e in
    (coeffs_true (down_coeffs coeffs) each.0, coeffs_true (across_coeffs coeffs) each.1)
filter_true (Sgrproj set xqd) e =
    let each = two (nat_lt set 16) (are_weights xqd) e in
    (few_sets set each.0, weights_true xqd each.1)

-- A filter that a bitstream can describe passes its test.
filter_of : (f : RestorationFilter) → IsFilter f → is_filter f ≡ true
filter_of None h = refl
filter_of (Wiener coeffs) h =
    two_of (are_coeffs (down_coeffs coeffs)) (are_coeffs (across_coeffs coeffs)) (coeffs_of (down_coeffs coeffs) h.0) (coeffs_of (across_coeffs coeffs) h.1)
filter_of (Sgrproj set xqd) h = two_of (nat_lt set 16) (are_weights xqd) (few_sets_of set h.0) (weights_of xqd h.1)

-- a table of units that passes its test has units that a bitstream can describe
table_true : (units : List RestorationUnit) → list_all is_unit units ≡ true → All IsUnit units
table_true units e k d l = filter_true (get_or units k d).filter (AllPass-from_list_all is_unit units e k d l)

-- A table of units that a bitstream can describe passes its test.
table_of : (units : List RestorationUnit) → All IsUnit units → list_all is_unit units ≡ true
table_of units each = list_all-from_AllPass is_unit units (λ k d l. filter_of (get_or units k d).filter (each k d l))

-- the test finds the tiles whose units a bitstream can describe
pub units_true : (parts : Three (Part RestorationUnit)) → are_units parts ≡ true → AreUnitParts parts
units_true parts e =
    let first = two (list_all is_unit parts.y.entries) (list_all is_unit parts.u.entries && list_all is_unit parts.v.entries) e in
    let others = two (list_all is_unit parts.u.entries) (list_all is_unit parts.v.entries) first.1 in
    record { y = table_true parts.y.entries first.0; u = table_true parts.u.entries others.0; v = table_true parts.v.entries others.1 }

-- The units of a tile that a bitstream can describe pass their test.
pub units_of : (parts : Three (Part RestorationUnit)) → AreUnitParts parts → are_units parts ≡ true
units_of parts h =
    two_of (list_all is_unit parts.y.entries) (list_all is_unit parts.u.entries && list_all is_unit parts.v.entries) (table_of parts.y.entries h.y)
    (two_of (list_all is_unit parts.u.entries) (list_all is_unit parts.v.entries) (table_of parts.u.entries h.u) (table_of parts.v.entries h.v))
