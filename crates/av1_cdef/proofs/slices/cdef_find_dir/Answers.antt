use Rattle.std.proofs.Common.{length, arith}
use Rattle.av1_cdef.proofs.Parts.{stored_room}
use Rattle.av1_plane.specs.Slices.{slice_row}
use Rattle.av1_cdef.proofs.slices.cdef_find_dir.Goals as goal

pub direction_at-direction-requires-clause-inside : goal.direction_at-direction-requires-clause-inside
direction_at-direction-requires-clause-inside g c =
    let inside = stored_room (length c.args.img.now.plane.now.samples.items) (slice_row c.args.img.now) c.args.img.now.plane.now.cfg.stride c.args.img.now.plane.now.cfg.alloc_height 7 c.args.img.now.plane.now.stored c.requires.rows in
    let columns = c.requires.columns in
    rw c.place-place.ensures (omega arith)
