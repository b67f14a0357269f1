-- A function that is called on each block of a rectangle.
use Rattle.std.specs.Prelude.{ℕ, ◌≡◌, ◌<◌, List, length}
use Rattle.std.specs.List.{slice_index_or}
use Rattle.std.specs.Borrow.{MutBor}
use Rattle.std.specs.Fn.{Shared}
use Rattle.av1_block.specs.declared.block.Block.{Block}

-- f may be called at a `&mut` to the block
abbrev pub Takes : {F : Type 0} → Shared F (MutBor Block × Unit {0}) (Unit {0} × (MutBor Block × Unit {0})) → F → Block → Type 0
Takes g f block = (shown : MutBor Block) → shown.now ≡ block → g.pre f (shown, tt)

-- a call of f at a `&mut` to the block `before` may leave the block `after` there
pub record Leaves {F : Type 0} (g : Shared F (MutBor Block × Unit {0}) (Unit {0} × (MutBor Block × Unit {0}))) (f : F) (before after : Block) : Type 0 where
  pub shown : MutBor Block
  pub shows : shown.now ≡ before
  pub left : MutBor Block
  pub met : g.post f (shown, tt) (tt, (left, tt))
  pub leaves : left.now ≡ after

-- each call of f at a `&mut` to a block leaves `change` of the block in its place
abbrev pub Computes : {F : Type 0} → Shared F (MutBor Block × Unit {0}) (Unit {0} × (MutBor Block × Unit {0})) → F → (Block → Block) → Type 0
Computes g f change = (before after : Block) → Leaves g f before after → after ≡ change before

-- lists of one length, related entry by entry
pub record AreRelated {E : Type 0} (R : E → E → Type 0) (xs ys : List E) : Type 0 where
  pub same : length ys ≡ length xs
  pub each : (k : ℕ) (d : E) → k < length xs → R (slice_index_or xs k d) (slice_index_or ys k d)
