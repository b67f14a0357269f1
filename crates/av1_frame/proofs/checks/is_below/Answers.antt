use Rattle.std.proofs.Common.{rules, ◌≡◌, pos, map, get_or, ap, sym, ◌∙◌, ℤ, ℕ}
use Rattle.std.specs.Prelude.{nat_lt, unsigned_abs}
use Rattle.std.proofs.lemmas.List.{get_or-map}
use Rattle.av1_frame.specs.Coding.{in_depth}
use Rattle.av1_frame.proofs.Depths.{by_size}
use Rattle.av1_frame.proofs.checks.is_below.Goals as goal

pub returns : goal.returns
returns g c =
    let number = g.T.Pixel.number in
    let z = c.to_i32.result in
    let here : get_or (map number c.args.samples.now) c.args.index (pos 0) ≡ z =
    get_or-map number c.args.samples.now c.args.index c.index-samples-index.result (pos 0) c.requires ∙ (ap number (sym c.index-samples-index.is) ∙ sym c.to_i32.ensures.value) in
    let size : c.unsigned_abs.result ≡ unsigned_abs z = search rules in
    ap (λ (n : ℕ). nat_lt n c.args.bound) size ∙ (by_size c.args.bound z c.to_i32.ensures.low ∙ ap (in_depth c.args.bound) (sym here))
