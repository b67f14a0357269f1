use Rattle.std.proofs.Common.{◌≡◌, ◌^◌, ◌*◌, ◌%◌, ap, ◌∙◌, ℕ, arith}
use Rattle.av1_tiling.specs.Frames.{Parameters}
use Rattle.av1_frame.proofs.Depths.{small_power}
use Rattle.av1_frame.proofs.checks.sample_bound.Goals as goal

pub returns : goal.returns
returns g c =
    let depth = c.args.fi.now.sequence.bit_depth in
    let one : 1 * 2 ^ depth ≡ 2 ^ depth = omega arith in
    ap (λ (p : Parameters). (1 * 2 ^ p.sequence.bit_depth) % 4294967296) c.fi.view_is
    ∙ (ap (λ (n : ℕ). n % 4294967296) one ∙ small_power depth c.requires)
