use Rattle.std.proofs.Common.{◌+◌, ◌+ℤ◌, ◌-ℤ◌, sym, rules}
use Rattle.std.proofs.lemmas.Int.{to_z-of_z}
use Rattle.av1_deblock.proofs.WideSums.{wide_sum_next, wide_sum_small}
use Rattle.av1_deblock.proofs.wide.next_total.Goals as goal
use mir.Val.{SFits}
use mir.Syntax.{w32}

pub returns-clause-value : goal.returns-clause-value
returns-clause-value c =
    let gap : SFits w32 (c.wide_pair-enters.result -ℤ c.wide_pair-leaves.result) = search rules in
    let sum : SFits w32 (c.args.total +ℤ (c.wide_pair-enters.result -ℤ c.wide_pair-leaves.result)) = search rules in
    let enters : SFits w32 c.wide_pair-enters.result = search rules in
    let leaves : SFits w32 c.wide_pair-leaves.result = search rules in
    simp (to_z-of_z, c.ranges.total, enters, leaves, gap, sum) (rw (c.requires.total, c.wide_pair-enters.ensures.value, c.wide_pair-leaves.ensures.value)
    (sym (wide_sum_next c.args.samples.now c.args.half c.args.n c.args.n2 c.args.k c.requires.n2)))

pub returns-clause-low : goal.returns-clause-low
returns-clause-low c = let small = wide_sum_small c.args.samples.now c.args.half c.args.n c.args.n2 (c.args.k + 1) c.requires.n2 c.requires.in_range in
    rw (returns-clause-value c) small.0

pub returns-clause-high : goal.returns-clause-high
returns-clause-high c = let small = wide_sum_small c.args.samples.now c.args.half c.args.n c.args.n2 (c.args.k + 1) c.requires.n2 c.requires.in_range in
    rw (returns-clause-value c) small.1
