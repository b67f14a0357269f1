use Rattle.std.proofs.Common.{◌≡◌, ◌≤◌, ◌<◌, ◌+◌, ◌*◌, length, arith, rules, refl}
use Rattle.std.proofs.lemmas.List.{length-map}
use Rattle.av1_plane.specs.Region.{numbers_under, samples_under, first_place, row_step, area}
use Rattle.av1_plane.proofs.Parts.{part_still, same_step}
use Rattle.av1_cdef.proofs.Blocks.{block_more, row_values}
use Rattle.av1_plane.proofs.Views.{row_inside}
use Rattle.av1_cdef.proofs.block.filter_block_by.Goals as goal

pub write_run-requires-clause-range : goal.write_run-requires-clause-range
write_run-requires-clause-range g c = c.filter_cells.ensures.range g.T.Pixel.limit c.requires.range

pub loop-i-preserved : goal.loop-i-preserved
loop-i-preserved g c =
    let part = c.loop-i.invariant.part in
    let r = c.args.p.now in
    let w : length c.filter_cells.new.row ≡ length c.args.row.now = search rules in
    let was : length c.loop-i.row ≡ length c.args.row.now = search rules in
    let fits : c.args.y + c.loop-i.i < (area r).height = omega arith in
    let inside : first_place r + (c.args.y + c.loop-i.i) * row_step r + (area r).width ≤ length (samples_under r) =
    row_inside (first_place r) (row_step r) (area r).width (area r).height (c.args.y + c.loop-i.i) (length (samples_under r)) fits c.requires.stored.inside in
    let numbers : length (numbers_under g.T.Pixel.number r) ≡ length (samples_under r) = length-map (samples_under r) g.T.Pixel.number in
    let wide = c.requires.stored.wide in
    record {
      part = part_still _ _ _ part c.write_run.ensures.part;
      value = block_more _ _ _ _ _ _ _ _ _ _ _ _ (omega arith) (omega arith) c.loop-i.invariant.value
          (row_values c.args.cells.now c.args.taps.now c.loop-i.i (length c.args.row.now) c.filter_cells.new.row (omega arith) (λ k l. c.filter_cells.ensures.value k (omega arith)))
          (rw (c.write_run.ensures.value, part.start, same_step _ _ part, w) refl);
    }
