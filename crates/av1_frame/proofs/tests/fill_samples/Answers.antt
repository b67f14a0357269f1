use Rattle.std.proofs.Common.{◌≡◌, ℕ, suc, zero, length, replicate, pos, map, ◌∷◌, refl, ap, sym, ◌∙◌}
use Rattle.std.proofs.lemmas.List.{length-map}
use Rattle.av1_tiling.specs.Views.{with_samples}
use Rattle.av1_frame.proofs.tests.fill_samples.Goals as goal

-- the numbers of equal samples are equal
numbers_of_equal : (n x : ℕ) → map (λ (y : ℕ). pos y) (replicate n x) ≡ replicate n (pos x)
numbers_of_equal zero x = refl
numbers_of_equal (suc n) x = ap (λ ys. pos x ∷ ys) (numbers_of_equal n x)

pub returns : goal.returns
returns c =
    let samples = c.samples_mut.result.now in
    let same : length samples ≡ length c.args.ts.now.rec.y.entries = sym (length-map samples (λ (y : ℕ). pos y)) ∙ ap length c.samples_mut.ensures.value in
    let filled = c.fill.ensures.after (λ y e. e) in
    ap (with_samples c.args.ts.now 0) (ap (map (λ (y : ℕ). pos y)) filled ∙ (numbers_of_equal (length samples) c.args.sample ∙ ap (λ n. replicate n (pos c.args.sample)) same))
