-- Writing a tile's recorded rows and blocks leaves each part as long as it was.
use Rattle.std.proofs.Common.{◌≡◌, ℤ, List, ◌++◌, length, drop, ap, ◌∙◌, arith}
use Rattle.std.proofs.lemmas.List.{length-take-le, length-append, length-drop}
use Rattle.av1_plane.specs.declared.three.Three.{Three}
use Rattle.av1_block.specs.Cut.{with_cut}
use Rattle.av1_block.specs.Rows.{refilled}
use Rattle.av1_tiling.specs.Views.{TileState}
use Rattle.av1_rec.specs.Recorded.{with_rows, with_planes, sides_inside, joined}

-- a list with others written over its front is as long as before
pub length-refilled : {E : Type 0} (old new : List E) → length (refilled old new) ≡ length old
length-refilled old new =
    let whole = length-append new (drop (length new) old) in
    let rest = length-drop (length new) old in
    length-take-le (length old) (new ++ drop (length new) old) (omega (arith, whole, rest))

-- a tile whose planes were written
module _ (before after : TileState) (rows : Three (List (List ℤ))) (same : after ≡ with_planes before rows) where
  -- A tile's state with the recorded rows of luma.
  abbrev one : TileState
  one = with_rows before 0 rows.y

  -- A tile's state with the recorded rows of luma and U.
  abbrev two : TileState
  two = with_rows one 1 rows.u

  -- the luma part is as long after writing as before
  pub written_y : length after.rec.y.entries ≡ length before.rec.y.entries
  written_y =
      ap (λ (t : TileState). length t.rec.y.entries) same
      ∙ length-refilled before.rec.y.entries (with_cut before.rec.y.entries before.rec.y.rect.width 0 0 (sides_inside before 0).0 (sides_inside before 0).1 (joined rows.y))

  -- the U part is as long after writing as before
  pub written_u : length after.rec.u.entries ≡ length before.rec.u.entries
  written_u =
      ap (λ (t : TileState). length t.rec.u.entries) same
      ∙ length-refilled before.rec.u.entries (with_cut before.rec.u.entries before.rec.u.rect.width 0 0 (sides_inside one 1).0 (sides_inside one 1).1 (joined rows.u))

  -- the V part is as long after writing as before
  pub written_v : length after.rec.v.entries ≡ length before.rec.v.entries
  written_v =
      ap (λ (t : TileState). length t.rec.v.entries) same
      ∙ length-refilled before.rec.v.entries (with_cut before.rec.v.entries before.rec.v.rect.width 0 0 (sides_inside two 2).0 (sides_inside two 2).1 (joined rows.v))
