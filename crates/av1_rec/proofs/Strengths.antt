-- Eight strengths in range.
use Rattle.std.proofs.Common.{ℕ, ◌≤◌, [], ◌∷◌, List, All, arith}
use Rattle.std.proofs.lemmas.List.Elements.{All-cons}

-- No strength of an empty list is above 63.
none_high : All (λ s. s ≤ 63) []
none_high k d l = absurd (omega (arith, l))

-- A strength of at most 63 before strengths of at most 63 leaves all of them at most 63.
one_more : (x : ℕ) (xs : List ℕ) → x ≤ 63 → All (λ s. s ≤ 63) xs → All (λ s. s ≤ 63) (x ∷ xs)
one_more x xs low all = All-cons (λ s. s ≤ 63) x xs low all

-- Eight strengths of at most 63 make a list of strengths of at most 63.
pub eight_within : (a b c d e f g h : ℕ) → a ≤ 63 → b ≤ 63 → c ≤ 63 → d ≤ 63 → e ≤ 63 → f ≤ 63 → g ≤ 63 → h ≤ 63
    → All (λ s. s ≤ 63) (a ∷ b ∷ c ∷ d ∷ e ∷ f ∷ g ∷ h ∷ [])
eight_within a b c d e f g h la lb lc ld le lf lg lh =
    let tail_g = one_more g (h ∷ []) lg (one_more h [] lh none_high) in
    let tail_e = one_more e (f ∷ g ∷ h ∷ []) le (one_more f (g ∷ h ∷ []) lf tail_g) in
    let tail_c = one_more c (d ∷ e ∷ f ∷ g ∷ h ∷ []) lc (one_more d (e ∷ f ∷ g ∷ h ∷ []) ld tail_e) in
    one_more a (b ∷ c ∷ d ∷ e ∷ f ∷ g ∷ h ∷ []) la (one_more b (c ∷ d ∷ e ∷ f ∷ g ∷ h ∷ []) lb tail_c)
