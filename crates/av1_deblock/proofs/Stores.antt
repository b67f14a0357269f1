-- The samples of an edge in the list of all samples of its plane.
use Rattle.std.proofs.Common.{◌≡◌, refl, set, ℕ, ℤ, pos, ◌+◌, ◌*◌, ◌<◌, ◌≤◌, List, length, map, get_or, sym, subst, ◌∙◌, ap, arith}
use Rattle.std.proofs.lemmas.List.{get_or-map, length-map, map-set}
use Rattle.av1_plane.specs.Runs.{placed}
use Rattle.av1_plane.specs.Region.{spot, samples_under, numbers_under, first_place, row_step, area}
use Rattle.av1_plane.specs.declared.region_mut.PlaneRegionMut.{PlaneRegionMut}
use Rattle.av1_deblock.specs.declared.edge.Edge.{Edge}
use Rattle.av1_deblock.specs.Columns.{StoresEdge, HoldsLines, HasColumns}
use Rattle.av1_deblock.specs.Passes.{HasEdge}
use Rattle.av1_deblock.proofs.SideBySide.{line_fits, row_fits}

-- the number of a sample of a list
pub sample-read : {X : Type 0} → (f : X → ℤ) (xs : List X) (i : ℕ) (a : X) → i < length xs → a ≡ get_or xs i a → f a ≡ get_or (map f xs) i (pos 0)
sample-read f xs i a l h = ap f h ∙ sym (get_or-map f xs i a (pos 0) l)

-- four samples written one after another are the run of their numbers
pub four_written : {X : Type 0} → (f : X → ℤ) (xs : List X) (at : ℕ) (ys : List ℤ) (first : ℕ) (a b c d : X) →
    f a ≡ get_or ys first (pos 0) → f b ≡ get_or ys (first + 1) (pos 0) → f c ≡ get_or ys (first + 2) (pos 0) → f d ≡ get_or ys (first + 3) (pos 0) →
    map f (set (set (set (set xs at a) (at + 1) b) (at + 2) c) (at + 3) d) ≡ placed (map f xs) at ys first 4
unfolding placed
four_written f xs at ys first a b c d ha hb hc hd =
    let here : at + 0 ≡ at = omega arith in
    let start : first + 0 ≡ first = omega arith in
    rw (map-set f _ (at + 3) d, map-set f _ (at + 2) c, map-set f _ (at + 1) b, map-set f _ at a, ha, hb, hc, hd, here, start) refl

-- a region that has an edge has its samples in the list under it
pub stores_edge : {X : Type 0} → (f : X → ℤ) (r : PlaneRegionMut X) (e : Edge) (xs : List X) → xs ≡ samples_under r → HasEdge r e → StoresEdge (first_place r) (row_step r) e (length xs)
stores_edge f r e xs same h =
    let numbers : length (map f (samples_under r)) ≡ length xs = length-map (samples_under r) f ∙ sym (ap length same) in
    record {
      long = λ v. (line_fits f r e 0 h v (omega arith)).0;
      lines = λ v k lk. rw (sym numbers) ((line_fits f r e k h v lk).1);
      wide = λ v. let inside : e.x + 4 ≤ (area r).width = rw v at h.inside.wide in omega (arith, h.stored.wide);
      rows = λ v j lj. rw (sym numbers) ((row_fits f r e j h v lj).1);
    }

-- cells that hold lines in the samples of a region's plane hold the region's lines
pub lines_under : {X : Type 0} → (f : X → ℤ) (r : PlaneRegionMut X) (e : Edge) {n o s : ℕ} {xs : List X} {cells : List ℤ} → n ≡ e.size →
    o ≡ first_place r → s ≡ row_step r → xs ≡ samples_under r → HoldsLines o s (map f xs) e n 4 cells → HoldsLines (first_place r) (row_step r) (numbers_under f r) e e.size 4 cells
lines_under f r e {cells = cells} en eo es ex h = subst (λ m. HoldsLines (first_place r) (row_step r) (numbers_under f r) e m 4 cells) en (rw (sym eo, sym es, sym ex) h)

-- lines written to the samples of a region's plane are written to the region
pub columns_under : {X : Type 0} → (f : X → ℤ) (r : PlaneRegionMut X) (e : Edge) {n o s : ℕ} {xs : List X} {cells ys : List ℤ} → n ≡ e.size →
    o ≡ first_place r → s ≡ row_step r → xs ≡ samples_under r → HasColumns o s e n 4 (map f xs) cells ys → HasColumns (first_place r) (row_step r) e e.size 4 (numbers_under f r) cells ys
columns_under f r e {cells = cells} {ys = ys} en eo es ex h = subst (λ m. HasColumns (first_place r) (row_step r) e m 4 (numbers_under f r) cells ys) en (rw (sym eo, sym es, sym ex) h)

-- where a later row of a region begins
pub row_below : (o s x y i : ℕ) → spot o s x (y + i) ≡ spot o s x y + i * s
row_below o s x y i =
    let rows : (y + i) * s ≡ y * s + i * s = grind arith in
    omega arith

pub ruleset stores = (row_below)
