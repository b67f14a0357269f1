-- Views for writing are told apart by their table and their rectangle.
use borrow.Follows.Closed.{read_of}
use mathlib.Core.HLevel.{is_prop→PathP}
use mathlib.Core.Option as maybe
use Rattle.std.proofs.Common.{◌≡◌, ◌+◌, ◌<◌, ◌^◌}
use Rattle.std.specs.Borrow.{GName}
use Rattle.std.specs.Coded.{le_prop}
use Rattle.av1_block.specs.declared.tile_view_mut.TileViewMut.{TileViewMut}

-- the bounds of a rectangle have one proof each
pub same_view : {E : Type 0} (a b : TileViewMut E) → a.table ≡ b.table → a.window ≡ b.window → a ≡ b
same_view a b table window = λ i. record {
  table = table i;
  window = window i;
  wide = is_prop→PathP (λ j. (window j).left + (window j).cols < 2 ^ 64) (λ j. le_prop) a.wide b.wide i;
  high = is_prop→PathP (λ j. (window j).top + (window j).rows < 2 ^ 64) (λ j. le_prop) a.high b.high i;
}

-- what a view is left as, said of an entry that may be lent, is the same for the same views
pub same_left : {E : Type 0} (name : maybe.Option GName) {left right : E → TileViewMut E} {old new : TileViewMut E} → ((w : E) → left w ≡ right w) → old ≡ new → read_of name left old ≡ read_of name right new
same_left name lent kept = λ t. read_of name (λ w. lent w t) (kept t)
