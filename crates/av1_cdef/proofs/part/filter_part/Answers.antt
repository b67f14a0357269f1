use Rattle.std.proofs.Common.{◌≡◌, arith}
use Rattle.av1_plane.proofs.Parts.{part_still, same_step}
use Rattle.av1_cdef.proofs.Progress.{blocks_more, blocks_row}
use Rattle.av1_cdef.proofs.part.filter_part.Goals as goal

pub loop-u-preserved : goal.loop-u-preserved
loop-u-preserved g c =
    let part = c.loop-u.invariant.part in
    let made = rw (part.start, same_step _ _ part) at c.part_block.ensures.value in
    let wide = c.requires.stored.wide in
    record {
      part = part_still _ _ _ part c.part_block.ensures.part;
      value = blocks_more _ _ _ _ _ _ _ _ _ _ _ _ _ (omega arith) (omega arith) (omega arith) (omega arith) c.loop-u.invariant.value made;
    }

pub loop-v-preserved : goal.loop-v-preserved
loop-v-preserved g c =
    let last : c.loop-u.u ≡ c.args.right = omega arith in
    record { part = c.loop-u.invariant.part; value = blocks_row _ _ _ _ _ _ _ _ _ _ _ (rw last at c.loop-u.invariant.value) }

pub returns-clause-value : goal.returns-clause-value
returns-clause-value g c = let last : c.loop-v.v ≡ c.args.bottom = omega arith in rw last at c.loop-v.invariant.value
