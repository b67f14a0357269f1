-- A plane after some of its samples were written, and runs of numbers copied from list to list.
use Rattle.std.specs.Prelude.{ℕ, zero, suc, ℤ, pos, ◌+◌, List, slice_set}
use Rattle.std.specs.List.{slice_index_or}
use Rattle.std.specs.Vec.{with_items_from}
use Rattle.std.proofs.Common.{sym, ◌∙◌}
use Rattle.av1_plane.specs.declared.plane.Plane.{Plane}

-- the plane after ws was written from place i on
abbrev pub plane_with_run : {X : Type 0} → Plane X → ℕ → List X → Plane X
plane_with_run p i ws = record { samples = with_items_from p.samples i ws; cfg = p.cfg; stored = sym (with_items_from p.samples i ws).ok.0 ∙ (p.samples.ok.0 ∙ p.stored); wide = p.wide; high = p.high }

-- xs with the n numbers of ys from `first` on in its places from `at` on
unfoldable pub placed : List ℤ → ℕ → List ℤ → ℕ → ℕ → List ℤ
placed xs at ys first zero = xs
placed xs at ys first (suc n) =
    slice_set (placed xs at ys first n) (at + n) (slice_index_or ys (first + n) (pos 0))
