use Rattle.std.proofs.Common.{◌+◌, ◌*◌, ◌∙◌, sym, rules, arith, refl}
use Rattle.av1_rec.proofs.BandFacts.{none_taken, wider_taken, taller_taken, all_taken}
use Rattle.av1_rec.proofs.text.block_bands.raise_all.Goals as goal

pub loop-tall-init : goal.loop-tall-init
loop-tall-init c = record {
  len = refl;
  value = λ x y hx hy. c.requires.fresh (y * c.args.cols + x) ∙ sym (none_taken c.band_sizes-wides.result x y c.args.lines.now);
}

pub loop-wide-preserved : goal.loop-wide-preserved
loop-wide-preserved c = record {
  len = search rules;
  value = λ x y hx hy.
      wider_taken c.loop-tall.tall c.loop-wide.wide c.band_sizes-wides.result x y _ _ c.args.lines.now (c.loop-wide.invariant.value x y hx hy) (c.in_ok-raise_by.ensures.value x y hx hy);
}

pub loop-tall-preserved : goal.loop-tall-preserved
loop-tall-preserved c = record {
  len = search rules;
  value = λ x y hx hy.
      taller_taken c.loop-tall.tall c.loop-wide.wide c.band_sizes-wides.result x y _ c.args.lines.now (omega arith) (c.loop-wide.invariant.value x y hx hy);
}

pub returns-clause-value : goal.returns-clause-value
returns-clause-value c = λ x y hx hy.
    all_taken c.loop-tall.tall c.band_sizes-talls.result c.band_sizes-wides.result x y c.most_rows.result c.most_columns.result _ c.args.lines.now (omega arith) c.band_sizes-talls.ensures.enough c.band_sizes-wides.ensures.enough c.most_rows.ensures c.most_columns.ensures (c.loop-tall.invariant.value x y hx hy)
