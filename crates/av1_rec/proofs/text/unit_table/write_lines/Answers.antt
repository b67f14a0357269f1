use Rattle.std.proofs.Common.{◌∙◌, rules}
use Rattle.av1_rec.proofs.UnitPlaces.{line_written, lines_written}
use Rattle.av1_rec.proofs.text.unit_table.write_lines.Goals as goal

pub loop-line-preserved : goal.loop-line-preserved
loop-line-preserved c = λ x y hx hy.
    let now = c.write_line.ensures x y hx hy in
    let before = c.loop-line.invariant x y hx hy in
    search (rules, line_written)

pub returns : goal.returns
returns c = lines_written c.args.extent c.args.p c.loop-line.line-index c.args.lines.now c.loop-line.units c.loop-line-test.false (c.loop-line.auto.units ∙ c.requires.table) c.loop-line.invariant
