use Rattle.std.proofs.Common.{◌≡◌, ℕ, zero, suc, ◌∷◌, ◌*◌, pos, map, replicate, refl, ap, ◌∙◌, sym, subst, arith}
use Rattle.std.proofs.lemmas.List.Elements.{All-replicate}
use Rattle.av1_plane.specs.Numbers.{Below, InDepth}
use Rattle.av1_deblock.proofs.tests.planes.grey_plane.Goals as goal

-- the numbers of equal samples
map-replicate : (n x : ℕ) → map (λ (i : ℕ). pos i) (replicate n x) ≡ replicate n (pos x)
map-replicate zero x = refl
map-replicate (suc n) x = ap (λ ys. pos x ∷ ys) (map-replicate n x)

pub returns-clause-range : goal.returns-clause-range
returns-clause-range c =
    let count = c.in_blocks-side.result * c.in_blocks-side.result in
    subst (Below 1024) (sym (ap (map (λ (i : ℕ). pos i)) (c.in_ok-samples.ensures.items_if_clones_equal (λ y e. e)) ∙ map-replicate count 512))
    (record { each = All-replicate (InDepth 1024) count (pos 512) (grind arith, grind arith) })
