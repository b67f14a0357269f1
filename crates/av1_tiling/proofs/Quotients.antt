-- Quotients rounded up.
use Rattle.std.proofs.Common.{◌≡◌, ℕ, ◌+◌, ◌-◌, ◌*◌, ◌<◌, ◌≤◌, ◌⊎◌, inl, inr, min, sym, ap, ◌∙◌, arith}
use Rattle.std.specs.Int.{div_ceil}
use Rattle.std.proofs.lemmas.Bool.{cases_lt, cases_order}
use Rattle.std.proofs.Math.Nat.{mul-le-mul_right}
use Rattle.av1_tiling.proofs.GridFacts.{parts_hold, fewer_do_not}

-- a number below another times d leaves room for d more
row_more : (a b d : ℕ) → a < b → a * d + d ≤ b * d
row_more a b d l =
    let more : (a + 1) * d ≤ b * d = mul-le-mul_right d (omega arith) in
    let split : (a + 1) * d ≡ a * d + d = omega arith in
    omega arith

-- Two numbers that both round r up to a multiple of d are equal.
same_between : (a b d r : ℕ) → (r ≤ a * d) × (a * d < r + d) → (r ≤ b * d) × (b * d < r + d) → (a ≡ b) ⊎ ((a < b) ⊎ (b < a)) → a ≡ b
same_between a b d r p q (inl e) = e
same_between a b d r p q (inr (inl l)) = let more = row_more a b d l in let p0 = p.0 in let q1 = q.1 in absurd (omega arith)
same_between a b d r p q (inr (inr l)) = let more = row_more b a d l in let p1 = p.1 in let q0 = q.0 in absurd (omega arith)

-- a number that is at least r / d and less than one above is the rounded quotient
pub div_ceil-from : (r d q : ℕ) → 0 < d → r ≤ q * d → q * d < r + d → div_ceil r d ≡ q
div_ceil-from r d q some low high = same_between (div_ceil r d) q d r (parts_hold r d some) (low, high) (cases_order (div_ceil r d) q)

-- q parts of d are enough for r where they hold r
pub div_ceil-le_of : (r d q : ℕ) → 0 < d → r ≤ q * d → div_ceil r d ≤ q
div_ceil-le_of r d q some enough = enough_or r d q some enough (cases_lt q (div_ceil r d))
  where
    enough_or : (r d q : ℕ) → 0 < d → r ≤ q * d → (q < div_ceil r d) ⊎ (div_ceil r d ≤ q) → div_ceil r d ≤ q
    enough_or r d q some enough (inl l) = let less = fewer_do_not r d q some l in absurd (omega arith)
    enough_or r d q some enough (inr g) = g

-- whole parts taken off the front leave the other parts
pub div_ceil-sub : (r n d : ℕ) → 0 < d → n * d ≤ r → div_ceil (r - n * d) d ≡ div_ceil r d - n
div_ceil-sub r n d some fits =
    let held = parts_hold r d some in
    let low = held.0 in
    let high = held.1 in
    let enough : n ≤ div_ceil r d = within r n d some fits (cases_lt (div_ceil r d) n) in
    let split : (div_ceil r d - n) * d + n * d ≡ div_ceil r d * d = taken (div_ceil r d) n d enough in
    div_ceil-from (r - n * d) d (div_ceil r d - n) some (omega arith) (omega arith)
  where
    within : (r n d : ℕ) → 0 < d → n * d ≤ r → (div_ceil r d < n) ⊎ (n ≤ div_ceil r d) → n ≤ div_ceil r d
    within r n d some fits (inl l) = let more = row_more (div_ceil r d) n d l in let held = (parts_hold r d some).0 in absurd (omega arith)
    within r n d some fits (inr g) = g

    taken : (a n d : ℕ) → n ≤ a → (a - n) * d + n * d ≡ a * d
    taken a n d l = let whole : ((a - n) + n) * d ≡ (a - n) * d + n * d = omega arith in sym whole ∙ ap (λ (x : ℕ). x * d) (let e : (a - n) + n ≡ a = omega arith in e)

-- the sides of a part that is cut to the line are cut to the line's sides
pub div_ceil-part : (w n r d : ℕ) → 0 < d → n * d ≤ r → div_ceil (min (w * d) (r - n * d)) d ≡ min w (div_ceil r d - n)
div_ceil-part w n r d some fits = by_size w n r d some (div_ceil-sub r n d some fits) (cases_lt (r - n * d) (w * d))
  where
    by_size : (w n r d : ℕ) → 0 < d → div_ceil (r - n * d) d ≡ div_ceil r d - n → (r - n * d < w * d) ⊎ (w * d ≤ r - n * d) → div_ceil (min (w * d) (r - n * d)) d ≡ min w (div_ceil r d - n)
    by_size w n r d some e (inl l) =
        let few : div_ceil (r - n * d) d ≤ w = div_ceil-le_of (r - n * d) d w some (omega arith) in
        let same : min (w * d) (r - n * d) ≡ r - n * d = omega arith in
        ap (λ (x : ℕ). div_ceil x d) same ∙ omega arith
    by_size w n r d some e (inr g) =
        let same : min (w * d) (r - n * d) ≡ w * d = omega arith in
        let whole : div_ceil (w * d) d ≡ w = div_ceil-from (w * d) d w some (omega arith) (omega arith) in
        let many : w ≤ div_ceil (r - n * d) d = least_many w (r - n * d) d some g (cases_lt (div_ceil (r - n * d) d) w) in
        ap (λ (x : ℕ). div_ceil x d) same ∙ (whole ∙ omega arith)
      where
        least_many : (w r d : ℕ) → 0 < d → w * d ≤ r → (div_ceil r d < w) ⊎ (w ≤ div_ceil r d) → w ≤ div_ceil r d
        least_many w r d some g (inl l) = let more = row_more (div_ceil r d) w d l in let held = (parts_hold r d some).0 in absurd (omega arith)
        least_many w r d some g (inr h) = h
