use Rattle.std.proofs.Common.{◌≡◌, ◌+◌, ◌*◌, arith}
use Rattle.av1_cdef.proofs.Analyses.{range_more, range_same}
use Rattle.av1_cdef.proofs.analysis.cdef_analyze_superblock_range.Goals as goal

pub loop-x-init : goal.loop-x-init
loop-x-init g c = range_same _ _ _ _ _ (omega arith) c.loop-y.invariant

pub loop-x-preserved : goal.loop-x-preserved
loop-x-preserved g c = rw c.in_ok-push.ensures.items (range_more _ _ _ _ _ _ (omega arith) c.loop-x.invariant c.cdef_analyze_superblock.ensures)

pub loop-y-preserved : goal.loop-y-preserved
loop-y-preserved g c =
    let last : c.loop-x.x ≡ c.args.sb_w = omega arith in
    let places : c.loop-y.y * c.args.sb_w + c.loop-x.x ≡ (c.loop-y.y + 1) * c.args.sb_w = grind arith in
    range_same _ _ _ _ _ places c.loop-x.invariant

pub returns : goal.returns
returns g c = let last : c.loop-y.y ≡ c.args.sb_h = omega arith in rw last at c.loop-y.invariant
