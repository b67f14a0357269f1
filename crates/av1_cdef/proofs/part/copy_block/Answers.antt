use Rattle.std.proofs.Common.{◌≡◌, ◌≤◌, ◌<◌, ◌+◌, ◌*◌, length, arith, refl}
use Rattle.std.proofs.lemmas.List.{length-map}
use Rattle.av1_plane.specs.Region.{numbers_under, samples_under, first_place, row_step, area}
use Rattle.av1_cdef.specs.Picture.{cdef_picture_of}
use Rattle.av1_plane.proofs.Parts.{part_still, same_step}
use Rattle.av1_cdef.proofs.Blocks.{block_more, copied_values}
use Rattle.av1_plane.proofs.Views.{row_inside}
use Rattle.av1_cdef.proofs.part.copy_block.Goals as goal

pub loop-i-preserved : goal.loop-i-preserved
loop-i-preserved g c =
    let part = c.loop-i.invariant.part in
    let r = c.args.p.now in
    let fits : c.args.to_y + c.loop-i.i < (area r).height = omega arith in
    let inside : first_place r + (c.args.to_y + c.loop-i.i) * row_step r + (area r).width ≤ length (samples_under r) =
    row_inside (first_place r) (row_step r) (area r).width (area r).height (c.args.to_y + c.loop-i.i) (length (samples_under r)) fits c.requires.stored.inside in
    let numbers : length (numbers_under g.T.Pixel.number r) ≡ length (samples_under r) = length-map (samples_under r) g.T.Pixel.number in
    let wide = c.requires.stored.wide in
    record {
      part = part_still _ _ _ part c.copy_run.ensures.part;
      value = block_more _ _ _ _ _ _ _ _ _ _ _ _ (omega arith) (omega arith) c.loop-i.invariant.value
          (λ j l. copied_values (cdef_picture_of g.T.Pixel.number c.args.source.now) c.args.x c.args.y c.loop-i.i _ j refl)
          (rw (c.copy_run.ensures.value, part.start, same_step _ _ part) refl);
    }
