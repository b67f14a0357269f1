-- The units of a frame lie in whole tiles: each of several tiles begins with a unit, and no more units than cover the frame.
use Rattle.std.proofs.Common.{◌≡◌, ℕ, zero, suc, ◌+◌, ◌-◌, ◌*◌, ◌/◌, ◌%◌, ◌^◌, ◌<◌, ◌≤◌, ◌⊎◌, inl, inr, min, sym, ap, ◌∙◌, refl, subst, arith}
use Rattle.std.specs.Int.{w64, trailing_zeros, div_ceil}
use Rattle.std.specs.Int.Count.{count_trailing_zeros}
use Rattle.std.proofs.lemmas.Bool.{cases_lt}
use Rattle.std.proofs.lemmas.Nat.{pow_pos, pow-add, mod-mul-add}
use Rattle.std.proofs.Math.Nat.{mul-le-mul_right, mul_assoc, mul_comm, pow-suc, div-mul-le_self}
use Rattle.std.proofs.Math.Pow.{pow_mono}
use Rattle.av1_tiling.specs.UnitSizes.{unit_log2, unit_count}
use Rattle.av1_tiling.proofs.Quotients.{div_ceil-le_of}
use Rattle.av1_tiling.proofs.GridFacts.{parts_hold, div_ceil-pos}

-- Powers of two.

-- an even number's zeros are one more than its half's
even_zeros : (k n : ℕ) → n % 2 ≡ 0 → count_trailing_zeros (suc k) n ≡ suc (count_trailing_zeros k (n / 2))
unfolding count_trailing_zeros
even_zeros k n e = rw e refl

-- an odd number has no trailing zero
odd_zeros : (k n : ℕ) → n % 2 ≡ 1 → count_trailing_zeros (suc k) n ≡ 0
unfolding count_trailing_zeros
odd_zeros k n e = rw e refl

-- No trailing zeros are counted in no bits.
no_zeros : (n : ℕ) → count_trailing_zeros zero n ≡ 0
unfolding count_trailing_zeros
no_zeros n = refl

-- a number is a multiple of each power of two up to its trailing zeros
zeros_divide : (k n s : ℕ) → s ≤ count_trailing_zeros k n → (q : ℕ) × (n ≡ q * 2 ^ s)
zeros_divide k n zero l = (n, omega arith)
zeros_divide zero n (suc s) l = absurd (omega (arith, no_zeros n))
zeros_divide (suc k) n (suc s) l = elim (cases_lt 0 (n % 2)) [
  | inl odd ↦ absurd (omega (arith, odd_zeros k n (omega arith)))
  | inr even ↦
      let none : n % 2 ≡ 0 = omega arith in
      let less : s ≤ count_trailing_zeros k (n / 2) = omega (arith, even_zeros k n none) in
      let half = zeros_divide k (n / 2) s less in
      let whole : n ≡ n / 2 * 2 = omega arith in
      let next : half.0 * 2 ^ s * 2 ≡ half.0 * 2 ^ suc s = mul_assoc half.0 (2 ^ s) 2 ∙ ap (λ (m : ℕ). half.0 * m) (sym (pow-suc 2 s)) in
      (half.0, whole ∙ (ap (λ (m : ℕ). m * 2) half.1 ∙ next))
]

-- a number has no rest by a power of two up to its trailing zeros
pub zeros_align : (n s : ℕ) → s ≤ trailing_zeros w64 n → n % 2 ^ s ≡ 0
zeros_align n s l =
    let parts = zeros_divide 64 n s l in
    let rest : (parts.0 * 2 ^ s + 0) % 2 ^ s ≡ 0 = mod-mul-add parts.0 (2 ^ s) 0 (pow_pos s) in
    let whole : parts.0 * 2 ^ s + 0 ≡ n = omega (arith, parts.1) in
    subst (λ (m : ℕ). m % 2 ^ s ≡ 0) whole rest

-- an even number has a trailing zero
pub even_has_zero : (n : ℕ) → n % 2 ≡ 0 → 1 ≤ trailing_zeros w64 n
even_has_zero n e = omega (arith, even_zeros 63 n e)

-- Sides of units.

-- a number is one of the four sides that a unit can have
abbrev pub IsSide : ℕ → Type 0
IsSide unit = (unit ≡ 32) ⊎ ((unit ≡ 64) ⊎ ((unit ≡ 128) ⊎ (unit ≡ 256)))

-- the lesser of two sides of units is a side of a unit
pub min_is : (a b : ℕ) → IsSide a → IsSide b → IsSide (min a b)
min_is a b p q = elim (cases_lt a b) [
  | inl less ↦ let same : a ≡ min a b = omega arith in subst IsSide same p
  | inr more ↦ let same : b ≡ min a b = omega arith in subst IsSide same q
]

-- a superblock's side in a plane, doubled some times, is a side of a unit or at least the largest
doubled : (d z : ℕ) → d ≤ 1 → IsSide (64 / 2 ^ d * 2 ^ z) ⊎ (256 ≤ 64 / 2 ^ d * 2 ^ z)
doubled zero zero l = inl (inr (inl refl))
doubled zero (suc zero) l = inl (inr (inr (inl refl)))
doubled zero (suc (suc z)) l = inr (let two : 2 ≤ suc (suc z) = omega arith in let more : 2 ^ 2 ≤ 2 ^ suc (suc z) = pow_mono two in omega arith)
doubled (suc zero) zero l = inl (inl refl)
doubled (suc zero) (suc zero) l = inl (inr (inl refl))
doubled (suc zero) (suc (suc zero)) l = inl (inr (inr (inl refl)))
doubled (suc zero) (suc (suc (suc z))) l = inr (let three : 3 ≤ suc (suc (suc z)) = omega arith in let more : 2 ^ 3 ≤ 2 ^ suc (suc (suc z)) = pow_mono three in omega arith)
doubled (suc (suc d)) z l = absurd (omega arith)

-- A unit has at most 256 samples a side.
most_256 : (unit : ℕ) → IsSide unit → unit ≤ 256
most_256 unit (inl e) = omega arith
most_256 unit (inr (inl e)) = omega arith
most_256 unit (inr (inr (inl e))) = omega arith
most_256 unit (inr (inr (inr e))) = omega arith

-- a unit's side kept to 2^z superblocks is a side of a unit
pub kept_is : (unit d z : ℕ) → IsSide unit → d ≤ 1 → IsSide (min unit (64 / 2 ^ d * 2 ^ z))
kept_is unit d z p l = elim (doubled d z l) [
  | inl side ↦ min_is unit (64 / 2 ^ d * 2 ^ z) p side
  | inr far ↦ let most = most_256 unit p in let same : unit ≡ min unit (64 / 2 ^ d * 2 ^ z) = omega arith in subst IsSide same p
]

-- how many superblocks a unit of a plane spans, as a logarithm: no more than the zeros that its side was kept to
low_of : (log unit d z : ℕ) → 2 ^ log ≡ unit → 5 ≤ log → log ≤ 8 → d ≤ 1 → unit ≤ 64 / 2 ^ d * 2 ^ z → log - (6 - d) ≤ z
low_of log unit zero z e least most l fits = elim (cases_lt z (log - 6)) [
  | inl less ↦
      let far : suc z + 6 ≤ log = omega arith in
      let more : 2 ^ (suc z + 6) ≤ 2 ^ log = pow_mono far in
      let split : 2 ^ (suc z + 6) ≡ 2 ^ suc z * 64 = pow-add 2 (suc z) 6 in
      let next : 2 ^ suc z ≡ 2 ^ z * 2 = pow-suc 2 z in
      let some : 0 < 2 ^ z = pow_pos z in
      absurd (omega arith)
  | inr enough ↦ enough
]
low_of log unit (suc zero) z e least most l fits = elim (cases_lt z (log - 5)) [
  | inl less ↦
      let far : suc z + 5 ≤ log = omega arith in
      let more : 2 ^ (suc z + 5) ≤ 2 ^ log = pow_mono far in
      let split : 2 ^ (suc z + 5) ≡ 2 ^ suc z * 32 = pow-add 2 (suc z) 5 in
      let next : 2 ^ suc z ≡ 2 ^ z * 2 = pow-suc 2 z in
      let some : 0 < 2 ^ z = pow_pos z in
      absurd (omega arith)
  | inr enough ↦ enough
]
low_of log unit (suc (suc d)) z e least most l fits = absurd (omega arith)

-- a unit's side is 2 to its logarithm, which is from 5 to 8
pub record HasLog2 (unit : ℕ) : Type 0 where
  pub power : 2 ^ unit_log2 unit ≡ unit
  pub least : 5 ≤ unit_log2 unit
  pub most : unit_log2 unit ≤ 8

-- The side of a unit is a power of two from 2^5 to 2^8.
pub log2_is : (unit : ℕ) → IsSide unit → HasLog2 unit
log2_is unit (inl e) = subst HasLog2 (sym e) (record { power = refl; least = omega arith; most = omega arith })
log2_is unit (inr (inl e)) = subst HasLog2 (sym e) (record { power = refl; least = omega arith; most = omega arith })
log2_is unit (inr (inr (inl e))) = subst HasLog2 (sym e) (record { power = refl; least = omega arith; most = omega arith })
log2_is unit (inr (inr (inr e))) = subst HasLog2 (sym e) (record { power = refl; least = omega arith; most = omega arith })

-- A unit kept to 2^z superblocks spans no more than 2^z superblocks of its plane.
pub low_shift : (unit d z : ℕ) → IsSide unit → d ≤ 1 → unit ≤ 64 / 2 ^ d * 2 ^ z → unit_log2 unit - (6 - d) ≤ z
low_shift unit d z p l fits = let log = log2_is unit p in low_of (unit_log2 unit) unit d z log.power log.least log.most l fits

-- a unit that is no smaller than a superblock in its plane spans whole superblocks
spans : (log unit d : ℕ) → 2 ^ log ≡ unit → d ≤ 1 → 6 - d ≤ log → 64 / 2 ^ d * 2 ^ (log - (6 - d)) ≡ unit
spans log unit zero e l least =
    let split : 2 ^ (6 + (log - 6)) ≡ 64 * 2 ^ (log - 6) = pow-add 2 6 (log - 6) in
    let whole : 6 + (log - 6) ≡ log = omega arith in
    sym split ∙ (ap (λ (n : ℕ). 2 ^ n) whole ∙ e)
spans log unit (suc zero) e l least =
    let split : 2 ^ (5 + (log - 5)) ≡ 32 * 2 ^ (log - 5) = pow-add 2 5 (log - 5) in
    let whole : 5 + (log - 5) ≡ log = omega arith in
    sym split ∙ (ap (λ (n : ℕ). 2 ^ n) whole ∙ e)
spans log unit (suc (suc d)) e l least = absurd (omega arith)

-- a unit's side is at least a superblock's in the plane
at_least : (log unit d : ℕ) → 2 ^ log ≡ unit → 5 ≤ log → d ≤ 1 → 64 / 2 ^ d ≤ unit → 6 - d ≤ log
at_least log unit zero e five l least = elim (cases_lt log 6) [
  | inl less ↦ let same : log ≡ 5 = omega arith in let small : 2 ^ log ≡ 32 = ap (λ (n : ℕ). 2 ^ n) same in absurd (omega arith)
  | inr more ↦ more
]
at_least log unit (suc zero) e five l least = five
at_least log unit (suc (suc d)) e five l least = absurd (omega arith)

-- a side has no more units than cover it
count_low : (unit side : ℕ) → 0 < unit → 0 < side → unit_count unit side ≤ div_ceil side unit
count_low unit side some filled =
    let one = div_ceil-pos side unit filled some in
    let held = (parts_hold side unit some).0 in
    let whole : (side + unit / 2) / unit * unit ≤ side + unit / 2 = div-mul-le_self (side + unit / 2) unit in
    let fewer : (side + unit / 2) / unit ≤ div_ceil side unit = elim (cases_lt (div_ceil side unit) ((side + unit / 2) / unit)) [
      | inl more ↦
          let next : (div_ceil side unit + 1) * unit ≤ (side + unit / 2) / unit * unit = mul-le-mul_right unit (omega arith) in
          let split : (div_ceil side unit + 1) * unit ≡ div_ceil side unit * unit + unit = omega arith in
          absurd (omega arith)
      | inr enough ↦ enough
    ] in
    omega arith

-- a side has no more units than the superblocks of the frame make
pub count_covered : (unit d side frame : ℕ) → IsSide unit → d ≤ 1 → 64 / 2 ^ d ≤ unit → 0 < side → side ≤ div_ceil frame 64 * (64 / 2 ^ d)
    → unit_count unit side ≤ div_ceil (div_ceil frame 64) (2 ^ (unit_log2 unit - (6 - d)))
count_covered unit d side frame p l least filled inside =
    let log = log2_is unit p in
    let shift = unit_log2 unit - (6 - d) in
    let some : 0 < unit = subst (λ (n : ℕ). 0 < n) log.power (pow_pos (unit_log2 unit)) in
    let span : 64 / 2 ^ d * 2 ^ shift ≡ unit = spans (unit_log2 unit) unit d log.power l (at_least (unit_log2 unit) unit d log.power log.least l least) in
    let q = div_ceil (div_ceil frame 64) (2 ^ shift) in
    let held : div_ceil frame 64 ≤ q * 2 ^ shift = (parts_hold (div_ceil frame 64) (2 ^ shift) (pow_pos shift)).0 in
    let more : div_ceil frame 64 * (64 / 2 ^ d) ≤ q * 2 ^ shift * (64 / 2 ^ d) = mul-le-mul_right (64 / 2 ^ d) held in
    let turned : q * 2 ^ shift * (64 / 2 ^ d) ≡ q * (64 / 2 ^ d * 2 ^ shift) = mul_assoc q (2 ^ shift) (64 / 2 ^ d) ∙ ap (λ (n : ℕ). q * n) (mul_comm (2 ^ shift) (64 / 2 ^ d)) in
    let area : q * (64 / 2 ^ d * 2 ^ shift) ≡ q * unit = ap (λ (n : ℕ). q * n) span in
    let enough : side ≤ q * unit = omega arith in
    let fewer = div_ceil-le_of side unit q some enough in
    let few = count_low unit side some filled in
    omega arith
