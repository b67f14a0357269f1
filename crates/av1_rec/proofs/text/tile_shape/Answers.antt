use Rattle.av1_rec.proofs.Shapes.{shape_is}
use Rattle.av1_rec.proofs.text.tile_shape.Goals as goal

pub returns-clause-value : goal.returns-clause-value
returns-clause-value c =
    shape_is c.args.format.now c.args.tiling.now c.args.n c.tile_luma-luma.result c.tile_blocks-blocks.result c.chroma_of.result c.tile_luma-luma.ensures.rect c.tile_blocks-blocks.ensures.rect c.chroma_of.ensures.none c.chroma_of.ensures.some
