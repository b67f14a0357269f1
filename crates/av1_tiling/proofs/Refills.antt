-- Lending the samples of a tile as numbers.
use Rattle.std.proofs.Common.{◌≡◌, ℤ, List, ◌++◌, Vec, length, map, take, drop, refl, ap, ◌∙◌}
use Rattle.std.specs.Vec.{with_items}
use Rattle.std.proofs.lemmas.List.{take-map, drop-map, map-append, length-map}
use Rattle.av1_block.specs.Rows.{refilled}

-- the numbers of samples with others written over their front
map-refilled : {T : Type 0} (f : T → ℤ) (old new : List T) → map f (refilled old new) ≡ refilled (map f old) (map f new)
map-refilled f old new =
    rw (length-map old f, length-map new f, drop-map f (length new) old, ← map-append f new (drop (length new) old), take-map f (length old) (new ++ drop (length new) old)) refl

-- the numbers of a vector of samples with others written over its front
pub map-with_items : {T Z : Type 0} (f : T → ℤ) (old : Vec T Z) (new : List T) → map f (with_items old new).items ≡ refilled (map f old.items) (map f new)
map-with_items f old new =
    ap (λ n. map f (take n (new ++ drop (length new) old.items))) old.ok.0 ∙ map-refilled f old.items new
