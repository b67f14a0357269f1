use Rattle.std.proofs.Common.{arith}
use Rattle.av1_tiling.proofs.GridFacts.{div_ceil_side-le}
use Rattle.av1_tiling.proofs.tile_limits.superblocks.Goals as goal

pub returns-clause-count : goal.returns-clause-count
returns-clause-count c =
    let most = div_ceil_side-le c.args.sb_size_log2 c.args.side c.requires.log2.0 c.requires.log2.1 c.requires.side.1 in
    let value = c.align_power_of_two_and_shift.ensures.value in
    let some = c.align_power_of_two_and_shift.ensures.some c.requires.side.0 in
    (some, omega arith)
