use Rattle.std.proofs.Common.{◌≡◌, ◌^◌}
use Rattle.av1_plane.specs.Region.{numbers_under, first_place, row_step, IsSamePart}
use Rattle.av1_deblock.specs.Levels.{edge_level}
use Rattle.av1_deblock.specs.Edges.{edge_in_rows, row_edges}
use Rattle.av1_deblock.specs.Passes.{raster_under, filtered, GridBelow}
use Rattle.av1_deblock.proofs.pass.filter_between.Given as goal

-- The edges in the first u columns of the row are filtered, and the region stays in depth.
abbrev pub invariant-loop-u : goal.invariant-loop-u
invariant-loop-u g l = record {
  part : IsSamePart l.initial.p l.p;
  value : numbers_under g.T.Pixel.number l.p ≡ filtered (raster_under l.pass.depth g.T.Pixel.number l.initial.p) (row_edges (edge_in_rows l.pass.grid (edge_level l.pass.deblock.now l.pass.level_index) l.rows) l.v l.u);
  range : GridBelow (2 ^ l.pass.depth) (first_place l.initial.p) (row_step l.initial.p) l.pass.grid (numbers_under g.T.Pixel.number l.p);
}
