-- Errors of edges, one after another.
use Rattle.std.specs.Prelude.{Option}
use Rattle.std.proofs.Common.{◌≡◌, ℕ, ℤ, pos, zero, suc, ◌+◌, ◌*◌, ◌<◌, ◌≤◌, Bool, true, false, List, [], ◌∷◌, ◌++◌, length, get_or, refl, sym, ◌∙◌, ap, arith, lit<}
use Rattle.std.specs.Option.{option_to_list}
use Rattle.std.specs.Prelude.{◌+ℤ◌}
use Rattle.std.proofs.lemmas.List.Sums.{sum_by-append}
use Rattle.std.proofs.Math.IntN.{+ℤ_idl, +ℤ_idr}
use Rattle.av1_plane.specs.declared.region.PlaneRegion.{PlaneRegion}
use Rattle.av1_plane.specs.declared.plane.PlaneConfig.{PlaneConfig}
use Rattle.av1_deblock.specs.declared.edge.Edge.{Edge}
use Rattle.av1_deblock.specs.declared.grid.Grid.{Grid}
use Rattle.av1_deblock.specs.declared.grid.BlockRows.{BlockRows}
use Rattle.av1_deblock.specs.Line.{sample, sum_below}
use Rattle.av1_deblock.specs.Columns.{column, HoldsLines}
use Rattle.av1_deblock.specs.Levels.{fixed}
use Rattle.av1_deblock.specs.Edges.{current_in, previous_in, stands_in, edge_size, edge_of, edge_in_rows, row_edges, edges_above, InRounded}
use Rattle.av1_deblock.specs.Passes.{edge_place, gathered, ShowsEdge, ShowsGrid, is_empty, grid_of}
use Rattle.av1_deblock.specs.Conditions.{IsDecimated, ShowsRounded}
use Rattle.av1_deblock.specs.Errors.{Compared, line_error, edge_error, edges_error, at_level, cells_error, HasAdded, IsTally}
use Rattle.av1_deblock.proofs.SideBySide.{column_gathered}
use Rattle.av1_deblock.proofs.EdgeLists.{edge_below, edge_stands, edge_missing, row_edges_none, row_edges_more, edges_none, edges_more}
use Rattle.av1_deblock.proofs.Planes.{grid_width, grid_height, grid_fits, grid_blocks}
use Rattle.av1_deblock.proofs.Tallies.{added_none, added_more, added_as}

-- the places of an edge don't depend on its level
place_same : (o s : ℕ) (e : Edge) (level k j : ℕ) → edge_place o s e k j ≡ edge_place o s (at_level e level) k j
unfolding edge_place
place_same o s e level k j = refl

-- a line of cells is the line of the edge at any level
line_same : (s : ℕ) (xs cells : List ℤ) (e : Edge) (level k : ℕ) → k < 4 → HoldsLines 0 s xs e e.size 4 cells → column cells k e.size ≡ gathered 0 s xs (at_level e level) k e.size
line_same s xs cells e level k lk h = column_gathered 0 s xs cells (at_level e level) k e.size lk (λ j lj. h.each j k lj lk ∙ ap (λ i. get_or xs i (pos 0)) (place_same 0 s e level k j))

-- the error of an edge's cells is the error of the edge
pub cells_are_edge : (c : Compared) (e : Edge) (cells source : List ℤ) (level : ℕ) → HoldsLines 0 c.coded_step c.coded e e.size 4 cells → HoldsLines 0 c.source_step c.source e e.size 4 source →
    cells_error c.depth e.size cells source level ≡ edge_error c (at_level e level)
unfolding cells_error edge_error line_error
cells_are_edge c e cells source level h k =
    rw (
      line_same c.coded_step c.coded cells e level 0 (lit< tt) h,
      line_same c.coded_step c.coded cells e level 1 (lit< tt) h,
      line_same c.coded_step c.coded cells e level 2 (lit< tt) h,
      line_same c.coded_step c.coded cells e level 3 (lit< tt) h,
      line_same c.source_step c.source source e level 0 (lit< tt) k,
      line_same c.source_step c.source source e level 1 (lit< tt) k,
      line_same c.source_step c.source source e level 2 (lit< tt) k,
      line_same c.source_step c.source source e level 3 (lit< tt) k,
    ) refl

-- no edges have the error 0
edges_error_none : (c : Compared) → edges_error c [] ≡ 0
unfolding edges_error
edges_error_none c = refl

-- the error of a list of one edge is the error of the edge
edges_error_one : (c : Compared) (e : Edge) → edges_error c (e ∷ []) ≡ edge_error c e
unfolding edges_error
edges_error_one c e = omega arith

-- the error of two lists of edges is the sum of both errors
edges_error-append : (c : Compared) (es fs : List Edge) → edges_error c (es ++ fs) ≡ edges_error c es + edges_error c fs
unfolding edges_error
edges_error-append c es fs = sum_by-append (edge_error c) es fs

-- the error of a place with an edge is the error of the edge
pub some_error : (c : Compared) (g : Grid) (r : BlockRows) (u v size level : ℕ) → stands_in g r u v ≡ true → size ≡ edge_size g (current_in g r u) (previous_in g r u) →
    edge_error c (edge_of g.vertical u v (record { size = size; level = level })) ≡ edges_error c (option_to_list (edge_in_rows g (fixed level) r u v))
some_error c g r u v size level h e = rw (e, edge_stands g (fixed level) r u v h) (sym (edges_error_one c _))

-- the error of a place without an edge is 0
pub none_error : (c : Compared) (g : Grid) (r : BlockRows) (u v level : ℕ) → stands_in g r u v ≡ false →
    0 ≡ edges_error c (option_to_list (edge_in_rows g (fixed level) r u v))
none_error c g r u v level h = rw (edge_missing g (fixed level) r u v h) (sym (edges_error_none c))

-- rows, from the left and from the top, of the edges that stand at each level

-- no edge of a row is added yet
pub row_none : (c : Compared) (fs : ℕ → ℕ → ℕ → Option Edge) (v : ℕ) (es : List ℤ) → HasAdded (4294967296 * 0) (λ level. edges_error c (row_edges (fs level) v 0)) es es
row_none c fs v es = added_as 0 (4294967296 * 0) _ _ es es (omega arith) (λ l h. rw (row_edges_none (fs l) v) (sym (edges_error_none c))) (added_none es)

-- one place more of a row is added
pub row_more : (c : Compared) (fs : ℕ → ℕ → ℕ → Option Edge) (v u : ℕ) (a b d : List ℤ) →
    HasAdded (4294967296 * u) (λ level. edges_error c (row_edges (fs level) v u)) a b →
    HasAdded 4294967296 (λ level. edges_error c (option_to_list (fs level u v))) b d →
    HasAdded (4294967296 * (u + 1)) (λ level. edges_error c (row_edges (fs level) v (u + 1))) a d
row_more c fs v u a b d h k =
    added_as (4294967296 * u + 4294967296) (4294967296 * (u + 1)) _ _ a d (omega arith)
    (λ l i. rw (row_edges_more (fs l) v u) (sym (edges_error-append c (row_edges (fs l) v u) (option_to_list (fs l u v)))))
    (added_more (4294967296 * u) 4294967296 _ _ a b d h k)

-- no row of edges is added yet
pub rows_none : (c : Compared) (fs : ℕ → ℕ → ℕ → Option Edge) (cols : ℕ) (es : List ℤ) → HasAdded (70368744177664 * 0) (λ level. edges_error c (edges_above (fs level) cols 0)) es es
rows_none c fs cols es = added_as 0 (70368744177664 * 0) _ _ es es (omega arith) (λ l h. rw (edges_none (fs l) cols) (sym (edges_error_none c))) (added_none es)

-- one row more of edges is added
pub rows_more : (c : Compared) (fs : ℕ → ℕ → ℕ → Option Edge) (cols v : ℕ) (a b d : List ℤ) →
    HasAdded (70368744177664 * v) (λ level. edges_error c (edges_above (fs level) cols v)) a b →
    HasAdded 70368744177664 (λ level. edges_error c (row_edges (fs level) v cols)) b d →
    HasAdded (70368744177664 * (v + 1)) (λ level. edges_error c (edges_above (fs level) cols (v + 1))) a d
rows_more c fs cols v a b d h k =
    added_as (70368744177664 * v + 70368744177664) (70368744177664 * (v + 1)) _ _ a d (omega arith)
    (λ l i. rw (edges_more (fs l) cols v) (sym (edges_error-append c (edges_above (fs l) cols v) (row_edges (fs l) v cols))))
    (added_more (70368744177664 * v) 70368744177664 _ _ a b d h k)

-- what a region shows of a plane

-- a region with the rounded part shows every edge in it
pub shows_edge : {X : Type 0} → (r : PlaneRegion X) (g : Grid) (e : Edge) → ShowsGrid r g → InRounded g e → ShowsEdge r e
shows_edge r g e h i = record { inside = record { wide = omega (arith, h.wide, i.wide); high = omega (arith, h.high, i.high) } }

-- a region of the rounded plane shows the grid's
pub shows_grid : {X : Type 0} → (r : PlaneRegion X) (pli : ℕ) (cfg : PlaneConfig) (vertical : Bool) (w h : ℕ) → IsDecimated pli cfg → is_empty cfg ≡ false → ShowsRounded cfg w h r → ShowsGrid r (grid_of pli cfg vertical w h)
shows_grid r pli cfg vertical w h d e c = record {
  wide = rw (grid_width pli cfg vertical w h d e) c.wide;
  high = rw (grid_height pli cfg vertical w h d e) c.high;
}

pub ruleset places = (shows_edge, edge_below)

pub ruleset planes = (shows_grid, grid_fits, grid_blocks)

-- a tally begins with zeros

-- zeros sum to 0
zero_sums : (es : List ℤ) (n : ℕ) → n ≤ 65 → ((i : ℕ) → i < 65 → get_or es i (pos 0) ≡ pos 0) → sum_below n (sample es) ≡ pos 0
unfolding sum_below
zero_sums es zero l h = refl
zero_sums es (suc n) l h = rw (zero_sums es n (omega arith) h, h n (omega arith)) (+ℤ_idr (pos 0))

-- zeros are the tally of no error
pub tally_none : (f : ℕ → ℕ) (es : List ℤ) → length es ≡ 65 → ((i : ℕ) → i < 65 → get_or es i (pos 0) ≡ pos 0) → ((level : ℕ) → f level ≡ 0) → IsTally f es
tally_none f es l h e = record { long = l; sums = λ level i. rw (e level) (zero_sums es (suc level) (omega arith) h); small = λ level i. omega (arith, e level) }

-- what was added to zeros is a tally
pub tally_of : (f : ℕ → ℕ) (a b : List ℤ) → length a ≡ 65 → ((i : ℕ) → i < 65 → get_or a i (pos 0) ≡ pos 0) → HasAdded 1152921504606846976 f a b → IsTally f b
tally_of f a b l h k = record {
  long = k.long ∙ l;
  sums = λ level i. k.sums level i ∙ ap (λ z. z +ℤ pos (f level)) (zero_sums a (suc level) (omega arith) h) ∙ +ℤ_idl (pos (f level));
  small = k.small;
}
