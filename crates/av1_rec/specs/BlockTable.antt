-- What the lines of a tile's blocks say of each block: the last line whose rectangle holds it decides.
use Rattle.std.specs.Prelude.{ℕ, zero, suc, ◌+◌, ◌*◌, ◌/◌, ◌%◌, List, [], ◌∷◌, ◌++◌, Bool, ◌&&◌, nat_le, nat_lt, if◌then◌else◌}
use Rattle.av1_block.specs.Block.{default_block}
use Rattle.av1_block.specs.declared.block.Block.{Block}
use Rattle.av1_rec.specs.declared.text.block_line.BlockLine.{BlockLine}

-- whether a line's rectangle holds column x of row y
abbrev pub holds : BlockLine → ℕ → ℕ → Bool
holds line x y = (nat_le line.x x && nat_lt x (line.x + line.cols)) && (nat_le line.y y && nat_lt y (line.y + line.rows))

-- the block at column x of row y, where `before` stood
abbrev pub block_after : Block → List BlockLine → ℕ → ℕ → Block
block_after before [] x y = before
block_after before (line ∷ lines) x y = block_after (if holds line x y then line.block else before) lines x y

-- f 0, f 1 and so on, n values
abbrev pub first_values : {A : Type 0} → (ℕ → A) → ℕ → List A
first_values f zero = []
first_values f (suc n) = first_values f n ++ f n ∷ []

-- a table of blocks, row by row, of default blocks where no line says more
unfoldable pub blocks_said : ℕ → ℕ → List BlockLine → List Block
blocks_said cols rows lines = first_values (λ k. block_after default_block lines (k % cols) (k / cols)) (cols * rows)
