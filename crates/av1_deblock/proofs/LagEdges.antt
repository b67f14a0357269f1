-- The edges between the blocks of a plane are an edge set of the plane.
use Rattle.std.specs.Prelude.{Some, None}
use Rattle.std.proofs.Common.{◌≡◌, ◌==◌, ℕ, ◌*◌, ◌/◌, ◌<◌, ◌≤◌, Bool, true, false, if◌then◌else◌, refl, subst, arith}
use Rattle.std.proofs.lemmas.Bool.Decides.{nat_tests}
use Rattle.av1_block.specs.declared.block.Block.{Block}
use Rattle.av1_deblock.specs.declared.grid.Grid.{Grid}
use Rattle.av1_deblock.specs.Line.{IsSize}
use Rattle.av1_deblock.specs.Levels.{level_by, level_index}
use Rattle.av1_deblock.specs.Edges.{BlockTable, EdgeFilter, place, current, previous, stands, edge_of, filter_at, rounded_cols, rounded_rows, GridFits, LiesInside}
use Rattle.av1_deblock.specs.Passes.{plane_grid, plane_cols, plane_rows, block_edges}
use Rattle.av1_deblock.specs.Laws.{EdgesInRounded}
use Rattle.av1_deblock.proofs.EdgeFits.{stands_fits, edge_is_sound}
use Rattle.av1_deblock.proofs.Planes.{grid_fits, grid_width, grid_height}

-- a filter that is found has passed both tests and is the filter that they lead to
found : (a b : Bool) (x f : EdgeFilter) → (if a then None else if b then Some x else None) ≡ Some f → (a ≡ false) × (b ≡ true) × (x ≡ f)
found true b x f h = absurd (cc)
found false true x f h = (refl, refl, cc)
found false false x f h = absurd (cc)

-- a place that isn't 0 is greater than 0
not_first : (p : ℕ) → (p == 0) ≡ false → 0 < p
not_first p h = grind (arith, nat_tests)

-- what holds of the filter of an edge that stands
record Fits (g : Grid) (u v : ℕ) (f : EdgeFilter) : Type 0 where
  size : IsSize f.size
  half : f.size / 2 ≤ 4 * place g u v
  inside : LiesInside (4 * rounded_cols g) (4 * rounded_rows g) (edge_of g.vertical u v f)

-- the filter that stands at a place fits the place
filter_fits : (g : Grid) (level : Block → Block → ℕ) (t : BlockTable) (u v : ℕ) (f : EdgeFilter) → GridFits g → u < g.cols → v < g.rows → filter_at g level t u v ≡ Some f → Fits g u v f
filter_fits g level t u v f fits lu lv h =
    let now = current g t u v in
    let prev = previous g t u v in
    let known = found (place g u v == 0) (stands g u v now prev) _ f h in
    let both = stands_fits g u v (level now prev) now prev fits lu lv (not_first (place g u v) known.0) known.1 in
    subst (Fits g u v) known.2 (record { size = (edge_is_sound g u v 0 now prev (omega arith)).size; half = both.0; inside = both.1 })

-- the blocks' edges are an edge set of the rounded part
pub edges_in_rounded : EdgesInRounded
edges_in_rounded p rule t d sides filled =
    record {
      size = λ vertical u v f lu lv h. (at vertical u v f lu lv h).size;
      half = λ vertical u v f lu lv h. (at vertical u v f lu lv h).half;
      inside = λ vertical u v f lu lv h. rw (← grid_width p.pli p.cfg vertical p.crop_w p.crop_h d filled, ← grid_height p.pli p.cfg vertical p.crop_w p.crop_h d filled) ((at vertical u v f lu lv h).inside);
    }
  where
    at : (vertical : Bool) (u v : ℕ) (f : EdgeFilter) → u < plane_cols p → v < plane_rows p → block_edges p rule t vertical u v ≡ Some f → Fits (plane_grid p vertical) u v f
    at vertical u v f lu lv h = filter_fits (plane_grid p vertical) (level_by rule (level_index p.pli vertical)) t u v f (grid_fits p.pli p.cfg vertical p.crop_w p.crop_h sides) lu lv h
