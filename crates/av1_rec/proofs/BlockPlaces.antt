-- What lines say of each place of a table of blocks.
use Rattle.std.proofs.Common.{◌≡◌, ℕ, ◌+◌, ◌*◌, ◌<◌, ◌≤◌, List, [], ◌∷◌, ◌++◌, take, length, get_or, ap, refl, sym, ◌∙◌, arith}
use Rattle.std.specs.Prelude.{if◌then◌else◌}
use Rattle.std.proofs.lemmas.Nat.{mul-le}
use Rattle.std.proofs.lemmas.List.{take_more}
use Rattle.av1_block.specs.Block.{default_block}
use Rattle.av1_block.specs.Tables.{entry_at}
use Rattle.av1_block.specs.declared.block.Block.{Block}
use Rattle.av1_rec.specs.declared.text.block_line.BlockLine.{BlockLine}
use Rattle.av1_rec.specs.BlockTable.{holds, block_after, blocks_said}
use Rattle.av1_rec.proofs.FirstValues.{by_places}

-- a place of another row stands before or behind this row
pub row_before : (s x k y : ℕ) → x < s → k < y → k * s + x < y * s
row_before s x k y h l =
    let all : (k + 1) * s ≤ y * s = mul-le (k + 1) s y s (omega arith) (omega arith) in
    omega arith

pub row_behind : (s x k y : ℕ) → y < k → y * s + s ≤ k * s + x
row_behind s x k y l =
    let all : (y + 1) * s ≤ k * s = mul-le (y + 1) s k s (omega arith) (omega arith) in
    omega arith

-- one line more
after_more : (lines : List BlockLine) (line : BlockLine) (before : Block) (x y : ℕ) → block_after before (lines ++ line ∷ []) x y ≡ (if holds line x y then line.block else block_after before lines x y)
after_more [] line before x y = refl
after_more (l ∷ lines) line before x y = after_more lines line (if holds l x y then l.block else before) x y

-- An entry that the next line has written is the block after one line more.
pub line_written : (lines : List BlockLine) (line : BlockLine) (i x y : ℕ) (entry old : Block) → i < length lines → line ≡ get_or lines i line
    → old ≡ block_after default_block (take i lines) x y → entry ≡ (if holds line x y then line.block else old) → entry ≡ block_after default_block (take (i + 1) lines) x y
line_written lines line i x y entry old lt e so_far now =
    let taken : take (i + 1) lines ≡ take i lines ++ line ∷ [] = take_more lines i line lt ∙ ap (λ (l : BlockLine). take i lines ++ l ∷ []) (sym e) in
    now ∙ ap (λ (b : Block). if holds line x y then line.block else b) so_far ∙ sym (after_more (take i lines) line default_block x y) ∙ ap (λ (l : List BlockLine). block_after default_block l x y) (sym taken)

-- the table that has these entries at all places
pub all_said : (cols rows : ℕ) (lines : List BlockLine) (items : List Block) → length items ≡ cols * rows
    → ((x y : ℕ) → x < cols → y < rows → entry_at items cols x y ≡ block_after default_block lines x y) → items ≡ blocks_said cols rows lines
unfolding blocks_said
all_said cols rows lines items count f =
    by_places default_block (λ x y. block_after default_block lines x y) cols rows items count f
