use Rattle.std.proofs.Common.{pos}
use Rattle.av1_rec.proofs.Depths.{narrow_depth, wide_depth}
use Rattle.av1_rec.proofs.PictureRows.{text_read}
use Rattle.av1_rec.proofs.text.text_of.Goals as goal

pub returns-in_ok-said-clause-read : goal.returns-in_ok-said-clause-read
returns-in_ok-said-clause-read c =
    let front = c.in_ok-header in
    text_read pos 256 front.header front.tiling front.rest.now c.in_ok-said.said front.ensures.right front.ensures.tiling
    (narrow_depth front.header.format.depth c.if-header-eq8.true) c.in_ok-said.ensures

pub returns-in_ok-said-2-clause-read : goal.returns-in_ok-said-2-clause-read
returns-in_ok-said-2-clause-read c =
    let front = c.in_ok-header in
    text_read pos 65536 front.header front.tiling front.rest.now c.in_ok-said-2.said front.ensures.right front.ensures.tiling
    (wide_depth front.header.format.depth front.ensures.right.depth c.if-header-eq8.false) c.in_ok-said-2.ensures
