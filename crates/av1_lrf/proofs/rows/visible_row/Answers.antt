use Rattle.std.proofs.Common.{◌≡◌, arith, refl, sym, pos}
use mir.Syntax.{w64}
use mir.Val.{to_z}
use Rattle.std.proofs.lemmas.Int.{to_z_pos}
use Rattle.av1_lrf.proofs.RowFacts.{row_long, row_numbers, row_below}
use Rattle.av1_lrf.proofs.rows.visible_row.Goals as goal

pub slice_bounds-result-end : goal.slice_bounds-result-end
slice_bounds-result-end g c =
    let e : to_z w64 c.args.y ≡ pos c.args.y = to_z_pos w64 c.args.y (omega arith) in
    rw (c.row.ensures, e) (sym (row_long c.args.p.now c.args.width c.args.y c.requires.shape.wide (omega (arith, c.requires.shape.high))))

pub returns-clause-long : goal.returns-clause-long
returns-clause-long g c =
    let e : to_z w64 c.args.y ≡ pos c.args.y = to_z_pos w64 c.args.y (omega arith) in
    rw (c.row.ensures, e) (row_long c.args.p.now c.args.width c.args.y c.requires.shape.wide (omega (arith, c.requires.shape.high)))

pub returns-clause-value : goal.returns-clause-value
returns-clause-value g c =
    let e : to_z w64 c.args.y ≡ pos c.args.y = to_z_pos w64 c.args.y (omega arith) in
    rw (c.row.ensures, e) (row_numbers g.T.Pixel.number c.args.p.now c.args.width c.args.height c.args.y c.requires.shape.wide)

pub returns-clause-range : goal.returns-clause-range
returns-clause-range g c = λ bound h.
    let e : to_z w64 c.args.y ≡ pos c.args.y = to_z_pos w64 c.args.y (omega arith) in
    rw (c.row.ensures, e) (row_below g.T.Pixel.number c.args.p.now bound c.args.width c.args.height c.args.y h c.requires.y)

pub returns-clause-row : goal.returns-clause-row
returns-clause-row g c =
    let e : to_z w64 c.args.y ≡ pos c.args.y = to_z_pos w64 c.args.y (omega arith) in
    rw (c.row.ensures, e) refl
