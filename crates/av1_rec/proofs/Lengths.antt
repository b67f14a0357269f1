-- A line's length, one byte after another.
use Rattle.std.proofs.Common.{◌≡◌, ◌≢◌, ◌+◌, ℕ, List, [], ◌∷◌, refl, arith}
use Rattle.std.proofs.lemmas.Bool.Decides.{nat_tests}
use Rattle.av1_rec.specs.Tile.{line_length}

-- An empty text has an empty first line.
pub length_none : line_length [] ≡ 0
unfolding line_length
length_none = refl

-- A line feed ends the first line.
pub length_end : (c : ℕ) (cs : List ℕ) → c ≡ 10 → line_length (c ∷ cs) ≡ 0
unfolding line_length
length_end c cs e = rw e refl

-- A byte that isn't a line feed makes the first line one byte longer.
pub length_on : (c : ℕ) (cs : List ℕ) → c ≢ 10 → line_length (c ∷ cs) ≡ line_length cs + 1
unfolding line_length
length_on c cs ne = grind (arith, nat_tests)

pub ruleset length_more = (length_none, length_end, length_on)
