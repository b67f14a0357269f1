use Rattle.av1_tiling.specs.Views.{view_frame}
use Rattle.av1_frame.proofs.BestLevels.{y_for, u_for, v_for}
use Rattle.av1_frame.proofs.Deblocking.{deblocked_input}
use Rattle.av1_frame.proofs.stages.deblock_frame.Goals as goal

pub deblock_planes-requires-clause-y : goal.deblock_planes-requires-clause-y
deblock_planes-requires-clause-y g c κs within = y_for c.args.fi.now (view_frame g.T.Pixel.number c.args.frame.now) c.requires.frame.width.0 c.requires.frame.height.0 c.requires.coded

pub deblock_planes-requires-clause-u : goal.deblock_planes-requires-clause-u
deblock_planes-requires-clause-u g c κs within = u_for c.args.fi.now (view_frame g.T.Pixel.number c.args.frame.now) c.requires.frame.width.0 c.requires.frame.height.0 c.requires.coded

pub deblock_planes-requires-clause-v : goal.deblock_planes-requires-clause-v
deblock_planes-requires-clause-v g c κs within = v_for c.args.fi.now (view_frame g.T.Pixel.number c.args.frame.now) c.requires.frame.width.0 c.requires.frame.height.0 c.requires.coded

pub returns-clause-value : goal.returns-clause-value
returns-clause-value g c = λ i. record {
  y = c.deblock_planes.ensures.y i;
  u = c.deblock_planes.ensures.u i;
  v = c.deblock_planes.ensures.v i;
}

pub returns-clause-range : goal.returns-clause-range
returns-clause-range g c =
    deblocked_input c.args.fi.now (view_frame g.T.Pixel.number c.args.frame.now) _ c.args.deblock.now c.args.blocks.now.entries c.requires.coded
    (λ i. record { y = c.deblock_planes.ensures.y i; u = c.deblock_planes.ensures.u i; v = c.deblock_planes.ensures.v i })
    c.deblock_planes.ensures.y_range c.deblock_planes.ensures.u_range c.deblock_planes.ensures.v_range
