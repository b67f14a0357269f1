-- Products of signed numbers between bounds.
use Rattle.std.proofs.Common.{◌≡◌, ℕ, ℤ, pos, negsuc, ◌+◌, ◌*◌, ◌<◌, ◌≤◌, ◌+ℤ◌, ◌*ℤ◌, ◌≤ℤ◌, arith, w32, FitsSigned, unsigned_abs}
use mir.Syntax.{w16}
use Rattle.std.proofs.lemmas.Nat.{mul-le}
use Rattle.std.proofs.lemmas.Int.{ints, unsigned_abs-mul, fits_signed_from_abs}
use Rattle.av1_lrf.specs.Sums.{limited}
use Rattle.av1_lrf.specs.Taps.{IsWithinBound}

-- the size of a bounded number is at most the bound
pub near_abs : (m : ℕ) (v : ℤ) → IsWithinBound m v → unsigned_abs v ≤ m
near_abs m (pos n) h = grind (arith, ints, h.high)
near_abs m (negsuc n) h = grind (arith, ints, h.low)

-- a number whose size is at most a bound is bounded
pub abs_near : (m : ℕ) (v : ℤ) → unsigned_abs v ≤ m → IsWithinBound m v
abs_near m (pos n) h = record { low = grind (arith, ints); high = grind (arith, ints) }
abs_near m (negsuc n) h = record { low = grind (arith, ints); high = grind (arith, ints) }

-- a product of bounded numbers is bounded by the product of the bounds
pub near_product : (m n : ℕ) (a b : ℤ) → IsWithinBound m a → IsWithinBound n b → IsWithinBound (m * n) (a *ℤ b)
near_product m n a b p q =
    let l : unsigned_abs a ≤ m = near_abs m a p in
    let r : unsigned_abs b ≤ n = near_abs n b q in
    let all : unsigned_abs a * unsigned_abs b ≤ m * n = mul-le (unsigned_abs a) (unsigned_abs b) m n l r in
    abs_near (m * n) (a *ℤ b) (omega (arith, unsigned_abs-mul a b))

-- a sum of bounded numbers is bounded by the sum of the bounds
pub near_sum : (m n : ℕ) (a b : ℤ) → IsWithinBound m a → IsWithinBound n b → IsWithinBound (m + n) (a +ℤ b)
near_sum m n a b p q = record { low = grind (arith, ints, p.low, q.low); high = grind (arith, ints, p.high, q.high) }

-- a bounded number fits 32 bits
pub near_fits : (m : ℕ) (v : ℤ) → IsWithinBound m v → m < 2147483648 → FitsSigned w32 v
near_fits m v h l = fits_signed_from_abs w32 v (omega (arith, near_abs m v h))

-- a bounded number is bounded by every greater bound
pub near_more : (m n : ℕ) (v : ℤ) → m ≤ n → IsWithinBound m v → IsWithinBound n v
near_more m n v l h = record { low = grind (arith, ints, h.low); high = grind (arith, ints, h.high) }

-- three products and their partial sums fit 32 bits
pub record ThreeSums (p q r : ℤ) : Type 0 where
  pub one : FitsSigned w32 (p +ℤ q)
  pub two : FitsSigned w32 (p +ℤ q +ℤ r)
  pub near : IsWithinBound 1283457024 (p +ℤ q +ℤ r)

-- three products and their sums fit
pub three_sums : (p q r : ℤ) → IsWithinBound 427819008 p → IsWithinBound 427819008 q → IsWithinBound 427819008 r → ThreeSums p q r
three_sums p q r hp hq hr =
    let n1 = near_sum 427819008 427819008 p q hp hq in
    let n2 = near_sum 855638016 427819008 (p +ℤ q) r n1 hr in
    record { one = near_fits 855638016 (p +ℤ q) n1 (omega arith); two = near_fits 1283457024 (p +ℤ q +ℤ r) n2 (omega arith); near = n2 }

-- the partial sums of seven numbers that are near 0
pub record SevenSums (p0 p1 p2 p3 p4 p5 p6 : ℤ) : Type 0 where
  pub one : FitsSigned w32 (p0 +ℤ p1)
  pub two : FitsSigned w32 (p0 +ℤ p1 +ℤ p2)
  pub three : FitsSigned w32 (p0 +ℤ p1 +ℤ p2 +ℤ p3)
  pub four : FitsSigned w32 (p0 +ℤ p1 +ℤ p2 +ℤ p3 +ℤ p4)
  pub five : FitsSigned w32 (p0 +ℤ p1 +ℤ p2 +ℤ p3 +ℤ p4 +ℤ p5)
  pub six : FitsSigned w32 (p0 +ℤ p1 +ℤ p2 +ℤ p3 +ℤ p4 +ℤ p5 +ℤ p6)
  pub near : IsWithinBound 1283457024 (p0 +ℤ p1 +ℤ p2 +ℤ p3 +ℤ p4 +ℤ p5 +ℤ p6)

-- seven products and their sums fit
pub seven_sums : (p0 p1 p2 p3 p4 p5 p6 : ℤ) → IsWithinBound 8388608 p0 → IsWithinBound 8388608 p1 → IsWithinBound 8388608 p2 → IsWithinBound 8388608 p3 → IsWithinBound 8388608 p4 → IsWithinBound 8388608 p5 → IsWithinBound 8388608 p6 → SevenSums p0 p1 p2 p3 p4 p5 p6
seven_sums p0 p1 p2 p3 p4 p5 p6 h0 h1 h2 h3 h4 h5 h6 =
    let n1 = near_sum 8388608 8388608 p0 p1 h0 h1 in
    let n2 = near_sum 16777216 8388608 (p0 +ℤ p1) p2 n1 h2 in
    let n3 = near_sum 25165824 8388608 (p0 +ℤ p1 +ℤ p2) p3 n2 h3 in
    let n4 = near_sum 33554432 8388608 (p0 +ℤ p1 +ℤ p2 +ℤ p3) p4 n3 h4 in
    let n5 = near_sum 41943040 8388608 (p0 +ℤ p1 +ℤ p2 +ℤ p3 +ℤ p4) p5 n4 h5 in
    let n6 = near_sum 50331648 8388608 (p0 +ℤ p1 +ℤ p2 +ℤ p3 +ℤ p4 +ℤ p5) p6 n5 h6 in
    record {
      one = near_fits 16777216 (p0 +ℤ p1) n1 (omega arith);
      two = near_fits 25165824 (p0 +ℤ p1 +ℤ p2) n2 (omega arith);
      three = near_fits 33554432 (p0 +ℤ p1 +ℤ p2 +ℤ p3) n3 (omega arith);
      four = near_fits 41943040 (p0 +ℤ p1 +ℤ p2 +ℤ p3 +ℤ p4) n4 (omega arith);
      five = near_fits 50331648 (p0 +ℤ p1 +ℤ p2 +ℤ p3 +ℤ p4 +ℤ p5) n5 (omega arith);
      six = near_fits 58720256 (p0 +ℤ p1 +ℤ p2 +ℤ p3 +ℤ p4 +ℤ p5 +ℤ p6) n6 (omega arith);
      near = near_more 58720256 1283457024 _ (omega arith) n6;
    }

-- adding 0 before a number gives the number
pub no_first : (v : ℤ) → pos 0 +ℤ v ≡ v
no_first v = omega (arith, ints)

-- a number of 16 bits is bounded
pub near_16 : (v : ℤ) → FitsSigned w16 v → IsWithinBound 32768 v
near_16 v h = record { low = grind (arith, ints, h); high = grind (arith, ints, h) }

-- a number that is limited between bounded limits is bounded
pub limited_near : (m : ℕ) (low high v : ℤ) → IsWithinBound m low → IsWithinBound m high → IsWithinBound m (limited low high v)
limited_near m low high v p q = record { low = grind (arith, ints, p.low, p.high, q.low, q.high); high = grind (arith, ints, p.low, p.high, q.low, q.high) }

-- a bounded number fits 16 bits
pub near_fits_16 : (v : ℤ) → IsWithinBound 32767 v → FitsSigned w16 v
near_fits_16 v h = fits_signed_from_abs w16 v (omega (arith, near_abs 32767 v h))

-- a limited number is no lower than the limit
pub limited_low : (low high v : ℤ) → low ≤ℤ limited low high v
limited_low low high v = grind (arith, ints)

-- a limited number is at most its upper limit
pub limited_high : (low high v : ℤ) → low ≤ℤ high → limited low high v ≤ℤ high
limited_high low high v h = grind (arith, ints)
