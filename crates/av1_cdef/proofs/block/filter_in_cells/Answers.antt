use Rattle.std.proofs.Common.{◌*◌, arith}
use Rattle.av1_cdef.specs.Picture.{cdef_picture_of}
use Rattle.av1_cdef.proofs.Windows.{window_held, block_samples, block_cells, block_filtered, block_same, cells_wider}
use Rattle.av1_cdef.proofs.block.filter_in_cells.Goals as goal

pub pad_block-requires-clause-window : goal.pad_block-requires-clause-window
pad_block-requires-clause-window g c =
    window_held _ _ (cdef_picture_of g.T.Pixel.number c.args.source.now) c.args.x c.args.y g.row.W g.row.H c.args.sides c.requires.held c.requires.block c.requires.x c.requires.y

pub filter_block-requires-clause-samples : goal.filter_block-requires-clause-samples
filter_block-requires-clause-samples g c =
    let deep = c.requires.settings.depth in
    block_samples (256 * c.args.settings.scale) _ (cdef_picture_of g.T.Pixel.number c.args.source.now) c.args.x c.args.y g.row.W g.row.H c.args.sides _ _ (omega arith) c.requires.held c.requires.block c.requires.x c.requires.y c.pad_block.ensures

pub filter_block-requires-clause-range : goal.filter_block-requires-clause-range
filter_block-requires-clause-range g c =
    let deep = c.requires.settings.depth in
    cells_wider (256 * c.args.settings.scale) g.T.Pixel.limit _ c.requires.limit
    (block_cells (256 * c.args.settings.scale) _ (cdef_picture_of g.T.Pixel.number c.args.source.now) c.args.x c.args.y g.row.W g.row.H c.args.sides _ _ (omega arith) c.requires.width c.requires.held c.requires.block c.requires.cells c.pad_block.ensures)

pub returns-clause-value : goal.returns-clause-value
returns-clause-value g c =
    let deep = c.requires.settings.depth in
    block_same _ _ _ _ _ _ _ _ _ _
    (λ i j li lj. block_filtered (256 * c.args.settings.scale) _ (cdef_picture_of g.T.Pixel.number c.args.source.now) c.args.x c.args.y g.row.W g.row.H c.args.sides _ _ c.args.settings c.taps_of-taps.result i j (omega arith) c.requires.held c.requires.block c.requires.x c.requires.y c.requires.settings c.taps_of-taps.ensures c.pad_block.ensures li lj)
    c.filter_block.ensures.value
