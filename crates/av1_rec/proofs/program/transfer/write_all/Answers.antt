use Rattle.std.proofs.Common.{◌++◌, ◌∙◌, take, rules}
use Rattle.av1_rec.proofs.Pieces.{appends_then, grown}
use Rattle.av1_rec.proofs.program.transfer.write_all.Goals as goal

pub loop-rest-preserved : goal.loop-rest-preserved
loop-rest-preserved g c =
    let so_far = c.loop-rest.invariant.written in
    record {
      written = (so_far.0 ++ take c.in_ok-n.n c.loop-rest.rest.now, rw (c.split_at.ensures.back) (grown c.args.bytes.now so_far.0 c.loop-rest.rest.now c.in_ok-n.n so_far.1), appends_then _ _ _ _ _ so_far.2 c.in_ok-n.ensures.written);
      quiet = λ e. c.in_ok-n.ensures.quiet e ∙ c.loop-rest.invariant.quiet e;
      kept = search rules;
    }
