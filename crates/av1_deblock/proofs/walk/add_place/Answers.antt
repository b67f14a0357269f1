use Rattle.std.proofs.Common.{arith, sym, ◌∙◌}
use Rattle.av1_deblock.specs.Errors.{compared}
use Rattle.av1_deblock.proofs.Tallies.{added_as, added_none}
use Rattle.av1_deblock.proofs.Walks.{some_error, none_error}
use Rattle.av1_deblock.proofs.walk.add_place.Goals as goal

pub returns-then-is_edge : goal.returns-then-is_edge
returns-then-is_edge g c =
    let added = rw c.standing_edge.ensures.value at c.add_edge.ensures in
    added_as 4294967296 4294967296 _ _ _ _ (omega arith)
    (λ l h. some_error (compared c.args.bd g.T.Pixel.number c.args.rec.now c.args.src.now) c.args.g c.args.rows.now c.args.u c.args.v _ l (sym c.is_edge.ensures ∙ c.if-is_edge.true) (cc))
    added

pub returns-else-is_edge : goal.returns-else-is_edge
returns-else-is_edge g c =
    added_as 0 4294967296 _ _ _ _ (omega arith)
    (λ l h. none_error (compared c.args.bd g.T.Pixel.number c.args.rec.now c.args.src.now) c.args.g c.args.rows.now c.args.u c.args.v l (sym c.is_edge.ensures ∙ c.if-is_edge.false))
    (added_none c.args.entries.now)
