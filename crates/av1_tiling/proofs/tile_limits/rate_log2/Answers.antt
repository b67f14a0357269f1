use Rattle.std.proofs.Common.{ℕ, ◌*◌, ◌∙◌, ap, subst}
use Rattle.std.specs.Int.{div_ceil}
use Rattle.av1_tiling.specs.Least.{IsTileLog2}
use Rattle.av1_tiling.proofs.GridFacts.{rate_log2-from}
use Rattle.av1_tiling.proofs.tile_limits.rate_log2.Goals as goal

pub returns : goal.returns
returns c =
    let a = c.args in
    let tiles = c.div_ceil-tiles.ensures ∙ (ap (λ (x : ℕ). div_ceil (a.samples * x) (588251136 * c.from-2.result)) c.from.ensures ∙ ap (λ (x : ℕ). div_ceil (a.samples * a.num) (588251136 * x)) c.from-2.ensures) in
    rate_log2-from a.samples a.num a.den c.reached_log2.result c.requires.rate (subst (λ (x : ℕ). IsTileLog2 1 x c.reached_log2.result) tiles c.reached_log2.ensures.least)
