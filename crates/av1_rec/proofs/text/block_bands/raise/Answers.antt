use Rattle.std.proofs.Common.{◌^◌, ◌<◌, rules}
use Rattle.std.proofs.lemmas.Nat.{pow_pos}
use Rattle.av1_rec.proofs.BandFacts.{place_inside, row_raised}
use Rattle.av1_rec.proofs.text.block_bands.raise.Goals as goal

pub raise_row-requires-clause-bands : goal.raise_row-requires-clause-bands
raise_row-requires-clause-bands c =
    let a = c.args in
    let some : 0 < 2 ^ a.tall = pow_pos a.tall in
    place_inside c.loop-y.y a.rows (2 ^ a.tall) a.width _ _ some c.loop-y-test.true c.requires.width c.requires.bands

pub loop-y-preserved : goal.loop-y-preserved
loop-y-preserved c = record {
  len = search rules;
  value = λ x y hx hy.
      row_raised c.args.cols c.args.width _ _ c.loop-y.y x y _ _ _ _ hx c.raise_row.ensures (c.loop-y.invariant.value x y hx hy);
}
