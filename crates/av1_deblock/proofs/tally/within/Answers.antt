use Rattle.std.proofs.Common.{◌≡◌, ℕ, ℤ, pos, negsuc, ◌<◌, ◌%◌, arith, w32, FitsSigned, to_z, of_z}
use Rattle.std.proofs.Math.Nat.{mod-eq_of_lt}
use Rattle.std.proofs.Math.IntN.{nat_abs}
use Rattle.std.proofs.lemmas.Int.{to_z-of_z, to_z_pos}
use Rattle.av1_plane.specs.Numbers.{InDepth}
use Rattle.av1_deblock.proofs.tally.within.Goals as goal

-- a number below a bound is its own remainder
same : (z : ℤ) (b : ℕ) → InDepth b z → FitsSigned w32 z → to_z w32 (nat_abs z % b) ≡ z
same (pos n) b h f =
    let below : n < b = grind (arith, h.1) in
    rw (mod-eq_of_lt below) (to_z_pos w32 n f.sfits)
same (negsuc n) b h f = absurd (grind (arith, h.0))

pub returns : goal.returns
returns c = rw (to_z-of_z w32 c.args.v c.ranges.v) (same c.args.v c.args.bound c.requires.v c.ranges.v)
