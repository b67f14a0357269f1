-- Views that are put into tables in the order of their delivery.
use Rattle.std.proofs.Common.{◌≡◌, ℕ, zero, suc, ◌<◌, ◌≤◌, inl, inr, List, [], ◌∷◌, length, map, get_or, Option, Some, None, slice_get, refl, sym, ap, ◌∙◌, subst, arith, All}
use Rattle.std.specs.Prelude.{ℤ, AllPairs}
use mathlib.Core.Logic.{dite}
use native.Mathlib.Decide.{ℕ_discrete}
use Rattle.std.proofs.lemmas.Bool.{cases_order}
use Rattle.std.proofs.lemmas.List.Elements.{All-nil, All-cons, All-head, All-tail}
use Rattle.std.proofs.lemmas.Option.{slice_get-get_or}
use Rattle.av1_block.specs.declared.restoration_unit.RestorationUnit.{RestorationUnit}
use Rattle.av1_block.specs.Rows.{Rows}
use Rattle.av1_block.specs.Cut.{AreApart}
use Rattle.av1_tiling.specs.Restoration.{Units}
use Rattle.av1_tiling.specs.Views.{View, Part, PlaneView}
use Rattle.av1_tiling.specs.Puts.{Tables, coded_tables}
use Rattle.av1_tiling.specs.Coded.{IsCovered, entry_in, HasParts, ArePartsApart, ViewLies, AreViewsApart, IsCodedPlane, IsCodedTable, IsCodedUnitTable, AreCoded, motion_part}
use Rattle.av1_tiling.proofs.Placed.{coded_have, coded_are}
use Rattle.av1_frame.specs.Claims.{times}
use Rattle.av1_frame.specs.AnyOrder.{Event, numbers, start, after, CodedAnyOrder}
use Rattle.av1_frame.proofs.Counting.{times_one, times_other}
use Rattle.av1_frame.proofs.OrderCounts.{length-numbers, full}
use Rattle.av1_frame.proofs.OrderRuns.{core_law, delivered_small}

-- the results of numbered results, without their numbers
abbrev seconds : {R : Type 0} → List (ℕ × R) → List R
seconds ps = map (λ p. p.1) ps

module _ {X Y : Type 0} (f : X → Y) where
  -- what holds of all images, said of the elements, and back
  under : (P : Y → Type 0) (xs : List X) → All P (map f xs) → All (λ x. P (f x)) xs
  under P [] h = All-nil (λ x. P (f x))
  under P (x ∷ xs) h = All-cons (λ x. P (f x)) x xs (All-head P (f x) (map f xs) h) (under P xs (All-tail P (f x) (map f xs) h))

  -- What holds of the image of each element holds of all elements of the mapped list.
  over : (P : Y → Type 0) (xs : List X) → All (λ x. P (f x)) xs → All P (map f xs)
  over P [] h = All-nil P
  over P (x ∷ xs) h = All-cons P (f x) (map f xs) (All-head (λ x. P (f x)) x xs h) (over P xs (All-tail (λ x. P (f x)) x xs h))

  -- an element of a mapped list is the image of the element at its place
  image_at : (xs : List X) (n : ℕ) (x : X) (d : Y) → slice_get xs n ≡ Some x → get_or (map f xs) n d ≡ f x
  image_at [] n x d e = absurd (let g : None ≡ Some x = e in cc)
  image_at (y ∷ xs) zero x d e = ap f (let g : Some y ≡ Some x = e in let is : y ≡ x = cc in is)
  image_at (y ∷ xs) (suc n) x d e = image_at xs n x d e

-- a place with an element lies in the list
within : {X Y : Type 0} (f : X → Y) (xs : List X) (n : ℕ) (x : X) → slice_get xs n ≡ Some x → n < length (map f xs)
within f [] n x e = absurd (let g : None ≡ Some x = e in cc)
within f (y ∷ xs) zero x e = omega arith
within f (y ∷ xs) (suc n) x e = let r = within f xs n x e in omega arith

-- what holds of all holds of the one at a place
all_at : {R : Type 0} (P : R → Type 0) (xs : List R) (n : ℕ) (r : R) → All P xs → slice_get xs n ≡ Some r → P r
all_at P [] n r h e = absurd (let g : None ≡ Some r = e in cc)
all_at P (x ∷ xs) zero r h e = subst P (let g : Some x ≡ Some r = e in let is : x ≡ r = cc in is) (All-head P x xs h)
all_at P (x ∷ xs) (suc n) r h e = all_at P xs n r (All-tail P x xs h) e

-- a numbered result is counted at its number
counted : {R : Type 0} (ps : List (ℕ × R)) (k : ℕ) (p : ℕ × R) → slice_get ps k ≡ Some p → 1 ≤ times p.0 (numbers ps)
counted [] k p e = absurd (let g : None ≡ Some p = e in cc)
counted (q ∷ ps) zero p e =
    let is : q.0 ≡ p.0 = (let g : Some q ≡ Some p = e in let same : q ≡ p = cc in ap (λ x. x.0) same) in
    let one : times p.0 (q.0 ∷ []) ≡ 1 = subst (λ n. times p.0 (n ∷ []) ≡ 1) (sym is) (times_one p.0) in omega arith
counted (q ∷ ps) (suc k) p e = let r = counted ps k p e in omega arith

-- a number that stands at two places stands at least twice
twice : {R : Type 0} (ps : List (ℕ × R)) (i j : ℕ) (p q : ℕ × R) → i < j → slice_get ps i ≡ Some p → slice_get ps j ≡ Some q → p.0 ≡ q.0 → 2 ≤ times q.0 (numbers ps)
twice [] i j p q before a b same = absurd (let g : None ≡ Some p = a in cc)
twice (x ∷ ps) i zero p q before a b same = absurd (omega arith)
twice (x ∷ ps) zero (suc j) p q before a b same =
    let is : x.0 ≡ q.0 = (let g : Some x ≡ Some p = a in let e : x ≡ p = cc in ap (λ y. y.0) e) ∙ same in
    let one : times q.0 (x.0 ∷ []) ≡ 1 = subst (λ n. times q.0 (n ∷ []) ≡ 1) (sym is) (times_one q.0) in
    let rest = counted ps j q b in omega arith
twice (x ∷ ps) (suc i) (suc j) p q before a b same = let r = twice ps i j p q (omega arith) a b same in omega arith

-- the numbered one at a place, and its image
numbered_at : {R Y : Type 0} (f : R → Y) (ps : List (ℕ × R)) (k : ℕ) (d : Y) → k < length (map f (seconds ps)) → (p : ℕ × R) × ((slice_get ps k ≡ Some p) × (get_or (map f (seconds ps)) k d ≡ f p.1))
numbered_at f [] k d l = absurd (omega arith)
numbered_at f (p ∷ ps) zero d l = (p, (refl, refl))
numbered_at f (p ∷ ps) (suc k) d l = numbered_at f ps k d (omega arith)

-- what holds of all pairs of elements holds of two elements at different places
pair_at : {X Y : Type 0} (f : X → Y) (R : Y → Y → Type 0) (xs : List X) (m n : ℕ) (x y : X) → AllPairs R (map f xs) → m < n → slice_get xs m ≡ Some x → slice_get xs n ≡ Some y → R (f x) (f y)
pair_at f R xs m n x y pairs before a b =
    subst (R (f x)) (image_at f xs n y (f x) b) (subst (λ z. R z (get_or (map f xs) n (f x))) (image_at f xs m x (f x) a) (pairs m n (f x) before (within f xs n y b)))

module _ {R : Type 0} (xs : List R) (ps : List (ℕ × R)) (each : (k : ℕ) (p : ℕ × R) → slice_get ps k ≡ Some p → slice_get xs p.0 ≡ Some p.1) where
  -- what holds of all results holds of the delivered ones
  forth_from : (P : R → Type 0) (qs : List (ℕ × R)) → ((k : ℕ) (p : ℕ × R) → slice_get qs k ≡ Some p → slice_get xs p.0 ≡ Some p.1) → All P xs → All P (seconds qs)
  forth_from P [] at h = All-nil P
  forth_from P (q ∷ qs) at h = All-cons P q.1 (seconds qs) (all_at P xs q.0 q.1 h (at zero q refl)) (forth_from P qs (λ k p e. at (suc k) p e) h)

  -- What holds of all results holds of all delivered ones.
  forth : (P : R → Type 0) → All P xs → All P (seconds ps)
  forth P h = forth_from P ps each h

  -- what holds of all delivered results holds of one that is delivered
  found : (P : R → Type 0) (qs : List (ℕ × R)) (n : ℕ) (r : R) → ((k : ℕ) (p : ℕ × R) → slice_get qs k ≡ Some p → slice_get xs p.0 ≡ Some p.1) → All P (seconds qs) → slice_get xs n ≡ Some r → times n (numbers qs) ≡ 1 → P r
  found P [] n r at h e one = absurd (omega arith)
  found P (q ∷ qs) n r at h e one = dite (ℕ_discrete q.0 n)
      (λ is. let same : Some q.1 ≡ Some r = sym (at zero q refl) ∙ (ap (slice_get xs) is ∙ e) in
      let s : q.1 ≡ r = cc in subst P s (All-head P q.1 (seconds qs) h))
      (λ ne. found P qs n r (λ k p g. at (suc k) p g) (All-tail P q.1 (seconds qs) h) e (let t = times_other n q.0 ne in omega arith))

  -- what holds of the delivered ones holds of all, where each is delivered once
  back : (P : R → Type 0) → ((n : ℕ) → n < length xs → times n (numbers ps) ≡ 1) → All P (seconds ps) → All P xs
  back P once h k d l = found P ps k (get_or xs k d) each h (slice_get-get_or xs k d l) (once k l)

  -- different numbers: images that are apart by number are apart in the order of delivery
  pairs_forth : {Y : Type 0} (f : R → Y) (Q : Y → Y → Type 0) → ((a b : Y) → Q a b → Q b a) → ((n : ℕ) → times n (numbers ps) < 2) → AllPairs Q (map f xs) → AllPairs Q (map f (seconds ps))
  pairs_forth f Q turned different pairs i j d before l =
      let p = numbered_at f ps i d (omega arith) in
      let q = numbered_at f ps j d l in
      let at_p = each i p.0 p.1.0 in
      let at_q = each j q.0 q.1.0 in
      subst (λ z. Q z (get_or (map f (seconds ps)) j d)) (sym p.1.1) (subst (Q (f p.0.1)) (sym q.1.1) (elim (cases_order p.0.0 q.0.0) [
        | inl same ↦ absurd (let t = twice ps i j p.0 q.0 before p.1.0 q.1.0 same in let u = different q.0.0 in omega arith)
        | inr (inl less) ↦ pair_at f Q xs p.0.0 q.0.0 p.0.1 q.0.1 pairs less at_p at_q
        | inr (inr more) ↦ turned (f q.0.1) (f p.0.1) (pair_at f Q xs q.0.0 p.0.0 q.0.1 p.0.1 pairs more at_q at_p)
      ]))

module _ (views : List View) (ps : List (ℕ × View)) (each : (k : ℕ) (p : ℕ × View) → slice_get ps k ≡ Some p → slice_get views p.0 ≡ Some p.1) (different : (n : ℕ) → times n (numbers ps) < 2) (once : (n : ℕ) → n < length views → times n (numbers ps) ≡ 1) where
  -- parts that are apart by number are apart in the order of delivery
  parts_apart : {E : Type 0} (part : View → Part E) → ArePartsApart (map part views) → ArePartsApart (map part (seconds ps))
  parts_apart part apart = pairs_forth views ps each part (λ one other. AreApart one.rect other.rect) (λ a b h u v p q. h u v q p) different apart

  -- delivered views have no place in common where all views have none
  views_apart : AreViewsApart views → AreViewsApart (seconds ps)
  views_apart a = record {
    y = parts_apart (λ v. v.ts.rec.y) a.y;
    u = parts_apart (λ v. v.ts.rec.u) a.u;
    v = parts_apart (λ v. v.ts.rec.v) a.v;
    motion = λ i. parts_apart (motion_part i) (a.motion i);
    y_units = parts_apart (λ v. v.ts.units.y) a.y_units;
    u_units = parts_apart (λ v. v.ts.units.u) a.u_units;
    v_units = parts_apart (λ v. v.ts.units.v) a.v_units;
    blocks = parts_apart (λ v. v.blocks) a.blocks;
  }

  -- a table with the delivered parts has all parts
  has_all : {E : Type 0} (part : View → Part E) (cols : ℕ) (old new : List E) → HasParts cols (map part (seconds ps)) old new → HasParts cols (map part views) old new
  has_all {E} part cols old new has = record {
    length = has.length;
    inside = λ k. let P = λ (p : Part E). IsCovered cols k p → slice_get new k ≡ entry_in cols k p in
        over part P views (back views ps each (λ v. P (part v)) once (under part P (seconds ps) (has.inside k)));
    elsewhere = λ k out. let P = λ (p : Part E). ¬ IsCovered cols k p in
        has.elsewhere k (over part P (seconds ps) (forth views ps each (λ v. P (part v)) (under part P views out)));
  }

  -- a plane that has the delivered parts has the parts of all views
  plane_all : (part : View → Part ℤ) (old new : PlaneView) → IsCodedPlane (map part (seconds ps)) old new → IsCodedPlane (map part views) old new
  plane_all part old new c = record { cfg = c.cfg; samples = has_all part old.cfg.stride old.samples new.samples c.samples }

  -- A table that has the delivered parts has the parts of all views.
  table_all : {E : Type 0} (part : View → Part E) (old new : Rows E) → IsCodedTable (map part (seconds ps)) old new → IsCodedTable (map part views) old new
  table_all part old new c = record { cols = c.cols; rows = c.rows; entries = has_all part old.cols old.entries new.entries c.entries }

  -- A table of units that has the delivered parts has the parts of all views.
  units_all : (part : View → Part RestorationUnit) (old new : Units) → IsCodedUnitTable (map part (seconds ps)) old new → IsCodedUnitTable (map part views) old new
  units_all part old new c = record { cfg = c.cfg; cols = c.cols; rows = c.rows; entries = has_all part old.cols old.entries new.entries c.entries }

  -- tables with the delivered views have all views
  coded_all : (old new : Tables) → AreCoded (seconds ps) old new → AreCoded views old new
  coded_all old new c = record {
    rec = record {
      y = plane_all (λ v. v.ts.rec.y) old.rec.y new.rec.y c.rec.y;
      u = plane_all (λ v. v.ts.rec.u) old.rec.u new.rec.u c.rec.u;
      v = plane_all (λ v. v.ts.rec.v) old.rec.v new.rec.v c.rec.v;
    };
    motion = record {
      count = c.motion.count;
      tables = λ i d l. table_all (motion_part i) (get_or old.motion i d) (get_or new.motion i d) (c.motion.tables i d l);
    };
    units = record {
      y = units_all (λ v. v.ts.units.y) old.units.y new.units.y c.units.y;
      u = units_all (λ v. v.ts.units.u) old.units.u new.units.u c.units.u;
      v = units_all (λ v. v.ts.units.v) old.units.v new.units.v c.units.v;
    };
    blocks = table_all (λ v. v.blocks) old.blocks new.blocks c.blocks;
  }

-- the delivered views may be put in in any order of delivery
pub coded_law : CodedAnyOrder
coded_law tables views lies apart workers events all =
    let m = after views (length views) events (start workers) in
    let o = core_law View workers views events in
    let once = full (length views) (numbers m.delivered) o.different (delivered_small views events workers) (length-numbers m.delivered ∙ all) in
    let delivered = seconds m.delivered in
    let coded = coded_all views m.delivered o.entries o.different once tables (coded_tables tables delivered)
    (coded_have tables delivered (forth views m.delivered o.entries (ViewLies tables) lies) (views_apart views m.delivered o.entries o.different once apart)) in
    record {
      order = coded_are views tables (coded_tables tables delivered) lies apart coded;
      coded = coded;
    }
