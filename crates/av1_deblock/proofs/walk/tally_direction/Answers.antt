use Rattle.std.proofs.Common.{◌≡◌, refl, sym, ◌∙◌, arith, true, false}
use Rattle.av1_deblock.specs.Edges.{edge_at}
use Rattle.av1_deblock.specs.Passes.{is_empty}
use Rattle.av1_deblock.proofs.Planes.{depth_in_grid}
use Rattle.av1_deblock.proofs.Tallies.{added_as}
use Rattle.av1_deblock.proofs.Walks.{tally_none, tally_of}
use Rattle.av1_deblock.proofs.walk.tally_direction.Goals as goal

pub add_edges-requires-clause-rec_range : goal.add_edges-requires-clause-rec_range
add_edges-requires-clause-rec_range g c =
    rw c.grid_in-g.ensures (depth_in_grid _ _ _ _ _ _ _ _ _ c.requires.plane.decimated (sym c.has_no_sample.ensures ∙ c.if-not-has_no_sample.true) c.requires.plane.rec_range)

pub add_edges-requires-clause-src_range : goal.add_edges-requires-clause-src_range
add_edges-requires-clause-src_range g c =
    rw c.grid_in-g.ensures (depth_in_grid _ _ _ _ _ _ _ _ _ c.requires.plane.decimated (sym c.has_no_sample.ensures ∙ c.if-not-has_no_sample.true) c.requires.plane.src_range)

pub returns-then-not-has_no_sample : goal.returns-then-not-has_no_sample
unfolding edge_at
returns-then-not-has_no_sample g c =
    let filled : is_empty c.args.rec.now.plane_cfg.now ≡ false = sym c.has_no_sample.ensures ∙ c.if-not-has_no_sample.true in
    let added = rw c.grid_in-g.ensures at c.add_edges.ensures in
    tally_of _ c.clear.new.entries _ c.clear.ensures.long c.clear.ensures.zeros
    (added_as 1152921504606846976 1152921504606846976 _ _ _ _ (omega arith) (λ l h. rw filled refl) added)

pub returns-else-not-has_no_sample : goal.returns-else-not-has_no_sample
returns-else-not-has_no_sample g c =
    let empty : is_empty c.args.rec.now.plane_cfg.now ≡ true = sym c.has_no_sample.ensures ∙ c.if-not-has_no_sample.false in
    tally_none _ c.clear.new.entries c.clear.ensures.long c.clear.ensures.zeros (λ l. rw empty refl)
