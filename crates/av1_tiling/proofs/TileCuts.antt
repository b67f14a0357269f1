-- The tiles cut each table: first along one side, counted in superblocks.
use Rattle.std.proofs.Common.{◌≡◌, ℕ, zero, suc, ◌+◌, ◌-◌, ◌*◌, ◌/◌, ◌%◌, ◌^◌, ◌<◌, ◌≤◌, ◌⊎◌, inl, inr, min, refl, sym, ap, ◌∙◌, subst, arith}
use Rattle.std.specs.Int.{div_ceil}
use Rattle.std.proofs.lemmas.Nat.{pow_pos, div-add-mod', mul-lt}
use Rattle.std.proofs.Math.Nat.{mul-le-mul_right, mul-div_cancel, mul_assoc, add-mul, zero-div, zero-mul, le-div_iff_mul-le, div-lt_iff_lt-mul}
use Rattle.av1_tiling.specs.Grid.{round_up}
use Rattle.av1_tiling.specs.Laws.{FitsUnits}
use Rattle.av1_tiling.proofs.GridFacts.{parts_hold, fewer_do_not}
use Rattle.av1_tiling.proofs.Quotients.{div_ceil-le_of, div_ceil-part}
use Rattle.av1_tiling.proofs.Cuts.{IsCut, even_cut, cut_like, one_cut}

-- tiles of w superblocks cut n superblocks
pub superblock_cut : (w n : ℕ) → 0 < w → IsCut (λ i. i * w) (λ i. min w (n - i * w)) (div_ceil n w) n
superblock_cut w n some =
    cut_like (λ i. min (i * w) n) (λ i. min w (n - i * w)) (λ i. i * w) (λ i. min w (n - i * w)) (div_ceil n w) n
    (λ i l. let inside = fewer_do_not n w i some l in (omega arith, refl))
    (even_cut w n (div_ceil n w) some (parts_hold n w some).0)

-- parts that are c times as long cut a line that is c times as long
pub scaled_cut : (start size : ℕ → ℕ) (count whole c : ℕ) → 0 < c → IsCut start size count whole → IsCut (λ i. start i * c) (λ i. size i * c) count (whole * c)
scaled_cut start size count whole c some cut = record {
  inside = λ i l. subst (λ (x : ℕ). x ≤ whole * c) (add-mul (start i) (size i) c) (mul-le-mul_right c (cut.inside i l));
  covered = λ x l.
      let part = cut.covered (x / c) ((div-lt_iff_lt-mul some).1 l) in
      (part.0, part.1, ((le-div_iff_mul-le some).0 part.2.0, subst (λ (y : ℕ). x < y) (add-mul (start part.0) (size part.0) c) ((div-lt_iff_lt-mul some).0 part.2.1)));
  apart = λ i j x li lj p q. cut.apart i j (x / c) li lj (scaled_down i x p) (scaled_down j x q);
}
  where
    scaled_down : (i x : ℕ) → (start i * c ≤ x) × (x < start i * c + size i * c) → (start i ≤ x / c) × (x / c < start i + size i)
    scaled_down i x p = ((le-div_iff_mul-le some).1 p.0, (div-lt_iff_lt-mul some).1 (subst (λ (y : ℕ). x < y) (sym (add-mul (start i) (size i) c)) p.1))

-- samples: side is that of a superblock and dec the shift to a plane
pub sample_cut : (w frame side part dec : ℕ) → 0 < w → 0 < part → part * dec ≡ side → 0 < dec
    → IsCut (λ i. i * w * side / dec) (λ i. round_up (min (w * side) (frame - i * w * side)) side / dec) (div_ceil (div_ceil frame side) w) (div_ceil frame side * side / dec)
sample_cut w frame side part dec some some_part e some_dec =
    subst (λ (x : ℕ). IsCut (λ i. i * w * side / dec) (λ i. round_up (min (w * side) (frame - i * w * side)) side / dec) (div_ceil (div_ceil frame side) w) x) (sym (shifted_down (div_ceil frame side)))
    (cut_like (λ i. i * w * part) (λ i. min w (div_ceil frame side - i * w) * part) (λ i. i * w * side / dec) (λ i. round_up (min (w * side) (frame - i * w * side)) side / dec) (div_ceil (div_ceil frame side) w) (div_ceil frame side * part)
    (λ i l. (shifted_down (i * w), ap (λ (x : ℕ). x * side / dec) (div_ceil-part w (i * w) frame side some_side (begins i l)) ∙ shifted_down (min w (div_ceil frame side - i * w))))
    (scaled_cut (λ i. i * w) (λ i. min w (div_ceil frame side - i * w)) (div_ceil (div_ceil frame side) w) (div_ceil frame side) part some_part (superblock_cut w (div_ceil frame side) some)))
  where
    some_side : 0 < side
    some_side = subst (λ (x : ℕ). 0 < x) e (mul-lt 0 0 part dec some_part some_dec)

    shifted_down : (q : ℕ) → q * side / dec ≡ q * part
    shifted_down q = ap (λ (x : ℕ). q * x / dec) (sym e) ∙ (ap (λ (x : ℕ). x / dec) (sym (mul_assoc q part dec)) ∙ mul-div_cancel (q * part) some_dec)

    begins : (i : ℕ) → i < div_ceil (div_ceil frame side) w → i * w * side ≤ frame
    begins i l = let inside : i * w * side < frame = fewer_do_not frame side (i * w) some_side (fewer_do_not (div_ceil frame side) w i some l) in omega arith

-- blocks: side is that of a superblock in blocks
pub block_cut : (w frame side : ℕ) → 0 < w → 0 < side
    → IsCut (λ i. i * w * side) (λ i. min (w * side) (frame / 4 - i * w * side)) (div_ceil (div_ceil frame (side * 4)) w) (frame / 4)
block_cut w frame side some some_side =
    cut_like (λ i. min (i * (w * side)) (frame / 4)) (λ i. min (w * side) (frame / 4 - i * (w * side))) (λ i. i * w * side) (λ i. min (w * side) (frame / 4 - i * w * side)) count (frame / 4)
    (λ i l. let same = mul_assoc i w side in let inside = begins i l in (omega arith, omega arith))
    (even_cut (w * side) (frame / 4) count (mul-lt 0 0 w side some some_side) enough)
  where
    count : ℕ
    count = div_ceil (div_ceil frame (side * 4)) w

    begins : (i : ℕ) → i < div_ceil (div_ceil frame (side * 4)) w → i * w * side ≤ frame / 4
    begins i l = let inside = fewer_do_not frame (side * 4) (i * w) (omega arith) (fewer_do_not (div_ceil frame (side * 4)) w i some l) in let turned = mul_assoc (i * w) side 4 in omega arith

    enough : frame / 4 ≤ div_ceil (div_ceil frame (side * 4)) w * (w * side)
    enough =
        let sides = div_ceil frame (side * 4) in
        let tiles = div_ceil sides w in
        let tiled : sides * (side * 4) ≤ tiles * w * (side * 4) = mul-le-mul_right (side * 4) (parts_hold sides w some).0 in
        let held = (parts_hold frame (side * 4) (omega arith)).0 in
        let four = mul_assoc (tiles * w) side 4 in
        let turned = mul_assoc tiles w side in
        omega arith

-- restoration units: w is q units of side superblocks
aligned_cut : (q n side units : ℕ) → 0 < q → 0 < side → units ≤ div_ceil n side
    → IsCut (λ i. min (i * (q * side) / side) units) (λ i. min (div_ceil (min (q * side) (n - i * (q * side))) side) (units - min (i * (q * side) / side) units)) (div_ceil n (q * side)) units
aligned_cut q n side units some some_side covered =
    cut_like (λ i. min (i * q) units) (λ i. min q (units - i * q)) (λ i. min (i * (q * side) / side) units) (λ i. min (div_ceil (min (q * side) (n - i * (q * side))) side) (units - min (i * (q * side) / side) units)) (div_ceil n (q * side)) units
    (λ i l. same i (starts i) (sizes i l))
    (even_cut q units (div_ceil n (q * side)) some enough)
  where
    starts : (i : ℕ) → i * (q * side) / side ≡ i * q
    starts i = ap (λ (x : ℕ). x / side) (sym (mul_assoc i q side)) ∙ mul-div_cancel (i * q) some_side

    sizes : (i : ℕ) → i < div_ceil n (q * side) → div_ceil (min (q * side) (n - i * (q * side))) side ≡ min q (div_ceil n side - i * q)
    sizes i l =
        let inside : i * (q * side) < n = fewer_do_not n (q * side) i (mul-lt 0 0 q side some some_side) l in
        let turned = mul_assoc i q side in
        ap (λ (x : ℕ). div_ceil (min (q * side) (n - x)) side) (sym turned) ∙ div_ceil-part q (i * q) n side some_side (omega arith)

    same : (i : ℕ) → i * (q * side) / side ≡ i * q → div_ceil (min (q * side) (n - i * (q * side))) side ≡ min q (div_ceil n side - i * q)
        → (min (i * (q * side) / side) units ≡ min (i * q) units) × (min (div_ceil (min (q * side) (n - i * (q * side))) side) (units - min (i * (q * side) / side) units) ≡ min q (units - i * q))
    same i start size = (omega arith, omega arith)

    enough : units ≤ div_ceil n (q * side) * q
    enough =
        let tiles = div_ceil n (q * side) in
        let held = (parts_hold n (q * side) (mul-lt 0 0 q side some some_side)).0 in
        let turned = mul_assoc tiles q side in
        let few : div_ceil n side ≤ tiles * q = div_ceil-le_of n side (tiles * q) some_side (omega arith) in
        omega arith

-- One tile alone has all units of a side.
lone_cut : (w n side units : ℕ) → 0 < w → div_ceil n w ≡ 1 → units ≤ div_ceil n side
    → IsCut (λ i. min (i * w / side) units) (λ i. min (div_ceil (min w (n - i * w)) side) (units - min (i * w / side) units)) 1 units
lone_cut w n side units some one covered =
    one_cut (λ i. min (i * w / side) units) (λ i. min (div_ceil (min w (n - i * w)) side) (units - min (i * w / side) units)) units
    (let none : 0 * w / side ≡ 0 = first in omega arith) (let none : 0 * w / side ≡ 0 = first in
    let held : n ≤ 1 * w = subst (λ (x : ℕ). n ≤ x * w) one (parts_hold n w some).0 in
    let all : min w (n - 0 * w) ≡ n = omega arith in
    ap (λ (x : ℕ). min (div_ceil x side) (units - min (0 * w / side) units)) all ∙ omega arith)
  where
    first : 0 * w / side ≡ 0
    first = ap (λ (x : ℕ). x / side) (let e : 0 * w ≡ 0 = omega arith in e) ∙ zero-div side

-- tiles of w of n superblocks, in units of 2 ^ shift
pub unit_cut : (shift units w n : ℕ) → 0 < w → FitsUnits shift units (div_ceil n w) w n
    → IsCut (λ i. min (i * w / 2 ^ shift) units) (λ i. min (div_ceil (min w (n - i * w)) (2 ^ shift)) (units - min (i * w / 2 ^ shift) units)) (div_ceil n w) units
unit_cut shift units w n some fits = by_alignment fits.aligned
  where
    Cut : ℕ → ℕ → Type 0
    Cut x tiles = IsCut (λ i. min (i * x / 2 ^ shift) units) (λ i. min (div_ceil (min x (n - i * x)) (2 ^ shift)) (units - min (i * x / 2 ^ shift) units)) tiles units

    quotient_pos : (q : ℕ) → q * 2 ^ shift ≡ w → 0 < q
    quotient_pos zero e = let none : 0 * 2 ^ shift ≡ 0 = zero-mul (2 ^ shift) in absurd (omega arith)
    quotient_pos (suc q) e = omega arith

    by_alignment : (div_ceil n w ≡ 1) ⊎ (w % 2 ^ shift ≡ 0) → Cut w (div_ceil n w)
    by_alignment (inl one) = subst (Cut w) (sym one) (lone_cut w n (2 ^ shift) units some one fits.covered)
    by_alignment (inr whole) =
        let split = div-add-mod' w (2 ^ shift) in
        let e : w / 2 ^ shift * 2 ^ shift ≡ w = omega arith in
        subst (λ (x : ℕ). Cut x (div_ceil n x)) e (aligned_cut (w / 2 ^ shift) n (2 ^ shift) units (quotient_pos (w / 2 ^ shift) e) (pow_pos shift) fits.covered)
