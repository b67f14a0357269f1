-- Blocks that are changed by calls of a function.
use Rattle.std.proofs.Common.{◌≡◌, List, length, get_or, map, sym, ◌∙◌, subst, ◌<◌, ℕ}
use Rattle.std.proofs.lemmas.List.{length-map, get_or-map, same_lists}
use Rattle.std.specs.Borrow.{MutBor}
use Rattle.std.specs.Fn.{Shared}
use Rattle.av1_block.specs.declared.block.Block.{Block}
use Rattle.av1_block.specs.Each.{Leaves, Computes, AreRelated}

-- where the calls of f compute `change`, they leave `change` of each block
pub changed_by : {F : Type 0} (g : Shared F (MutBor Block × Unit {0}) (Unit {0} × (MutBor Block × Unit {0}))) (f : F) (change : Block → Block) (old new : List Block)
    → Computes g f change → AreRelated (Leaves g f) old new → new ≡ map change old
changed_by g f change old new computes related =
    same_lists new (map change old) (related.same ∙ sym (length-map old change))
    (λ k d within.
    let below : k < length old = subst (λ (n : ℕ). k < n) related.same within in
    computes (get_or old k d) (get_or new k d) (related.each k d below) ∙ sym (get_or-map change old k d d below))
