use Rattle.std.proofs.Common.{◌≡◌, ◌+◌, ◌∙◌, map, arith}
use Rattle.std.specs.Prelude.{unsigned_abs}
use Rattle.av1_lrf.specs.Rows.{sample}
use Rattle.av1_lrf.proofs.MixFacts.{finished_without_strong, finished_without_weak}
use Rattle.av1_lrf.proofs.guided.finish_by_strengths.Goals as goal

pub returns-then-m-eq0 : goal.returns-then-m-eq0
returns-then-m-eq0 g c =
    let none : c.args.m.strong ≡ 0 = omega (arith, c.if-m-eq0.true) in
    record {
      on = λ i l. c.finish_line.ensures.on i l
          ∙ finished_without_strong c.args.m c.args.odd c.args.a1.now c.args.b1.now c.args.a2.now c.args.b2.now c.args.a1.now c.args.b1.now (c.args.p + i) (c.args.q + i) (unsigned_abs (sample (map g.T.Pixel.number c.args.xs.now) (c.args.from + i))) none;
      off = c.finish_line.ensures.off;
      long = c.finish_line.ensures.long;
    }

pub returns-then-m-eq0-2 : goal.returns-then-m-eq0-2
returns-then-m-eq0-2 g c =
    let none : c.args.m.weak ≡ 0 = omega (arith, c.if-m-eq0-2.true) in
    record {
      on = λ i l. c.finish_line-then-m-eq0-2.ensures.on i l
          ∙ finished_without_weak c.args.m c.args.odd c.args.a2.now c.args.b2.now c.args.a2.now c.args.b2.now c.args.a1.now c.args.b1.now (c.args.p + i) (c.args.q + i) (unsigned_abs (sample (map g.T.Pixel.number c.args.xs.now) (c.args.from + i))) none;
      off = c.finish_line-then-m-eq0-2.ensures.off;
      long = c.finish_line-then-m-eq0-2.ensures.long;
    }
