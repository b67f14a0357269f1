use Rattle.av1_cdef.proofs.Pads.{row_padded}
use Rattle.av1_cdef.proofs.pad.pad_ends.Goals as goal

pub returns : goal.returns
returns g c =
    let first = rw c.saturating_sub.ensures at c.pad_side.ensures in
    row_padded _ _ _ _ _ _ _ _ _ _ c.requires.before first c.put_cells.ensures c.pad_side-2.ensures
