use Rattle.std.proofs.Common.{sym, ◌∙◌}
use Rattle.av1_cdef.specs.Picture.{cdef_picture_of}
use Rattle.av1_cdef.proofs.Windows.{block_same}
use Rattle.av1_cdef.proofs.Parts.{sample_copied, sample_filtered}
use Rattle.av1_cdef.proofs.part.put_block.Goals as goal

pub returns-then-stays-clause-value : goal.returns-then-stays-clause-value
returns-then-stays-clause-value g c = block_same _ _ _ _ _ _ _ _ _ _ (λ i j li lj. sample_copied (cdef_picture_of g.T.Pixel.number c.args.source.now) c.args.skip c.args.settings c.args.x c.args.y i j (sym c.stays.ensures ∙ c.if-stays.true)) c.copy_block.ensures.value

pub returns-else-stays-clause-value : goal.returns-else-stays-clause-value
returns-else-stays-clause-value g c = block_same _ _ _ _ _ _ _ _ _ _ (λ i j li lj. sample_filtered (cdef_picture_of g.T.Pixel.number c.args.source.now) c.args.skip c.args.settings c.args.x c.args.y i j (sym c.stays.ensures ∙ c.if-stays.false)) c.filter_from.ensures.value
