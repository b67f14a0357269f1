use Rattle.std.proofs.Common.{refl, arith}
use Rattle.av1_block.specs.Each.{Leaves}
use Rattle.av1_block.proofs.Related.{related_more, related_rest}
use Rattle.av1_block.proofs.each.call_on_all.Goals as goal

pub loop-block-preserved : goal.loop-block-preserved
loop-block-preserved g c =
    let before = c.loop-block.invariant in
    record {
      changed = related_more (Leaves g.F.Fn c.args.f.now) c.args.blocks.now c.loop-block.blocks c.loop-block.block-index c.f.new.arg2 _ (omega (arith, c.loop-block.auto.blocks, c.loop-block-test.true)) before.changed before.rest
          (record { shown = _; shows = refl; left = _; met = c.f.ensures; leaves = refl });
      rest = related_rest (Leaves g.F.Fn c.args.f.now) c.args.blocks.now c.loop-block.blocks c.loop-block.block-index c.f.new.arg2 before.rest;
    }
