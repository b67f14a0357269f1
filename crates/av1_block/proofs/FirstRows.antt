-- The first rows of a rectangle of a table, and what stands below them.
use Rattle.std.proofs.Common.{◌≡◌, ℕ, zero, suc, ◌+◌, ◌*◌, ◌<◌, ◌≤◌, List, length, take, drop, refl, ◌∙◌, arith}
use Rattle.std.proofs.lemmas.Nat.{mul-le}
use Rattle.av1_block.specs.Cut.{LiesIn, with_cut}
use Rattle.av1_block.proofs.Runs.{drop_after_overwritten}
use Rattle.av1_block.proofs.Cuts.{less_high, row_inside, length_part, length-with_cut}

-- the first rows of a rectangle in a table lie in the table
pub first_rows : (n cols x y width height row : ℕ) → LiesIn n cols x y width height → row < height → LiesIn n cols x y width (row + 1)
first_rows n cols x y width height row inside below = record {
  across = inside.across;
  down = omega (arith, inside.down, mul-le (y + (row + 1)) cols (y + height) cols (omega arith) (omega arith));
}

-- writing the first rows of a rectangle leaves the rows below as they were
pub below_put : {E : Type 0} (table : List E) (cols x y width height : ℕ) (entries : List E) (i : ℕ) → LiesIn (length table) cols x y width height → (y + height) * cols ≤ i
    → drop i (with_cut table cols x y width height entries) ≡ drop i table
unfolding with_cut
below_put table cols x y width zero entries i inside below = refl
below_put table cols x y width (suc height) entries i inside below =
    let less : LiesIn (length table) cols x y width height = less_high _ _ _ _ _ _ inside in
    let same : length (with_cut table cols x y width height entries) ≡ length table = length-with_cut table cols x y width height entries less in
    let row : y * cols + height * cols + x + width ≤ length table = row_inside _ _ _ _ _ (suc height) height inside (omega arith) in
    let short : length (take width (drop (height * width) entries)) ≤ width = length_part entries width (height * width) in
    drop_after_overwritten (with_cut table cols x y width height entries) ((y + height) * cols + x) (take width (drop (height * width) entries)) i (omega (arith, below, short, inside.across)) (omega (arith, same, row))
    ∙ below_put table cols x y width height entries i less (omega (arith, below))
