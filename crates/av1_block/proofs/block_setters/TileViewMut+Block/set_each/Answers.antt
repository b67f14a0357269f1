use Rattle.std.proofs.Common.{List, ap, ◌∙◌}
use Rattle.av1_block.specs.declared.block.Block.{Block}
use Rattle.av1_block.specs.Writing.{with_blocks_at, blocks_at}
use Rattle.av1_block.proofs.Computing.{changed_by}
use Rattle.av1_block.proofs.block_setters.TileViewMut+Block.set_each.Goals as goal

pub for_each-requires-clause-callable : goal.for_each-requires-clause-callable
for_each-requires-clause-callable g c = λ k d within shown shows. c.requires.callable.at (shown, tt)

pub returns : goal.returns
returns g c = λ change computes.
    let a = c.args in
    let old = a.self.now in
    let new = c.for_each.new.self in
    let done = c.for_each.ensures in
    let changed = changed_by g.F.Fn a.f change (blocks_at old a.bo.0 a.bsize) (blocks_at new a.bo.0 a.bsize) computes done.changed in
    record {
      same = done.same;
      placed = done.placed;
      blocks = done.elsewhere ∙ ap (λ (l : List Block). with_blocks_at old a.bo.0 a.bsize l) changed;
    }
