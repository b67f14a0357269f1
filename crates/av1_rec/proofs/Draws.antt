-- Draws go on from where earlier ones ended.
use Rattle.std.proofs.Common.{◌≡◌, ℕ, zero, suc, ◌+◌, refl, sym, ap, ◌∙◌, arith}
use Rattle.av1_rec.specs.Generated.{next_state, state_after}

-- the state before any draw is the first state
pub no_draw : (state : ℕ) → state_after state 0 ≡ state
unfolding state_after
no_draw state = refl

-- one draw more gives the next state
pub one_draw : (state n : ℕ) → next_state (state_after state n) ≡ state_after state (n + 1)
unfolding state_after
one_draw state n = let k : n + 1 ≡ suc n = omega arith in ap (state_after state) (sym k)

-- a row of draws after others gives the state after all of them
pub row_of_draws : (state n m : ℕ) → state_after (state_after state n) m ≡ state_after state (n + m)
unfolding state_after
row_of_draws state n zero = ap (state_after state) (let k : n ≡ n + 0 = omega arith in k)
row_of_draws state n (suc m) =
    ap next_state (row_of_draws state n m) ∙ ap (state_after state) (let k : suc (n + m) ≡ n + suc m = omega arith in k)
