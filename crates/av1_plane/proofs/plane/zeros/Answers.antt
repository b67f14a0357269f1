use Rattle.std.proofs.Common.{◌≡◌, ℕ, ℤ, zero, suc, ◌∷◌, map, replicate, refl, ap, ◌∙◌}
use Rattle.av1_plane.proofs.plane.zeros.Goals as goal

-- the numbers of equal samples
map-replicate : {X : Type 0} → (f : X → ℤ) (n : ℕ) (x : X) → map f (replicate n x) ≡ replicate n (f x)
map-replicate f zero x = refl
map-replicate f (suc n) x = ap (λ ys. f x ∷ ys) (map-replicate f n x)

pub returns : goal.returns
returns g c =
    ap (map g.T.Pixel.number) (c.in_ok-vec.ensures.items_if_clones_equal (g.met.T.Pixel.clones_are_equal c.from_i32.result))
    ∙ map-replicate g.T.Pixel.number c.args.count c.from_i32.result
    ∙ ap (λ z. replicate c.args.count z) c.from_i32.ensures
