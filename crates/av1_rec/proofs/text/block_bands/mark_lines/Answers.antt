use Rattle.std.proofs.Common.{◌*◌, ◌+◌, ◌<◌, length, refl, rules, arith}
use Rattle.av1_rec.proofs.BandFacts.{none_marked, line_marked}
use Rattle.av1_rec.proofs.text.block_bands.mark_lines.Goals as goal

pub loop-line-init : goal.loop-line-init
loop-line-init c = record {
  counted = search rules;
  len = refl;
  value = λ p q hp hq. none_marked _ _ p q _ _ (c.requires.fresh (q * c.args.width + p));
}

pub loop-line-preserved : goal.loop-line-preserved
loop-line-preserved c = record {
  counted = search rules;
  len = search rules;
  value = λ p q hp hq.
      let now = c.mark_line.ensures.value p q hp (omega arith) in
      let before = c.loop-line.invariant.value p q hp hq in
      let lt : c.loop-line.line-index < length c.args.lines.now = search rules in
      line_marked _ _ p q c.args.lines.now _ _ _ _ _ lt c.loop-line.invariant.counted before now;
}
