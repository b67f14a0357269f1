-- Putting back, in numbers.
use Rattle.std.proofs.Common.{◌≡◌, ℕ, zero, suc, ◌+◌, ◌<◌, ◌≤◌, ◌++◌, List, [], ◌∷◌, map, length, get_or, take, drop, refl, sym, ap, subst, ◌∙◌, append-nil, arith}
use Rattle.std.proofs.Math.ListN.{set, length-take}
use Rattle.std.proofs.lemmas.List.{length-map, drop_all, map-append, take_more}
use Rattle.std.proofs.Math.Seq.{take-length}
use Rattle.av1_block.proofs.Cuts.{map_with_cut, length-with_cut}
use Rattle.av1_plane.specs.declared.three.Three.{Three}
use Rattle.av1_block.specs.declared.block.Block.{Block}
use Rattle.av1_block.specs.declared.me_stats.MEStats.{MEStats}
use Rattle.av1_block.specs.Rows.{Rows}
use Rattle.av1_tiling.specs.Restoration.{Units}
use Rattle.av1_tiling.specs.Views.{View, Part, PlaneView}
use Rattle.av1_tiling.specs.Puts.{Tables, put, put_all, put_cuts, put_in, put_motion, put_view, coded_frame, coded_blocks, coded_motion, coded_tables, put_units, coded_units}

-- a list that is refilled with as many entries as it had has these entries
pub refilled_whole : {T : Type 0} (n : ℕ) (old new : List T) → length old ≡ n → length new ≡ n → take n (new ++ drop (length new) old) ≡ new
refilled_whole n old new o e = rw (drop_all (length new) old (omega (arith, o, e)), append-nil new, ← e) (take-length new)

pub ruleset puts = (map_with_cut, length-with_cut, length-map)

-- One part more at the end of a list is put back last.
pub put_all-push : {E : Type 0} (table : List E) (parts : List (Part E)) (part : Part E) → put_all table (parts ++ part ∷ []) ≡ put (put_all table parts) part
unfolding put_all
put_all-push table [] part = refl
put_all-push table (p ∷ parts) part = put_all-push (put table p) parts part

-- Putting no part back leaves the table as it is.
pub put_all-none : {E : Type 0} (table : List E) → put_all table [] ≡ table
unfolding put_all
put_all-none table = refl

-- Putting no view back leaves the planes as they are.
pub coded_frame-none : (f : Three PlaneView) → coded_frame f [] ≡ f
coded_frame-none f = λ i. record {
  y = record f.y { samples = put_all-none f.y.samples i };
  u = record f.u { samples = put_all-none f.u.samples i };
  v = record f.v { samples = put_all-none f.v.samples i };
}

-- One view more at the end of a list has its part put back last.
pushed : {A E : Type 0} (part : A → Part E) (table : List E) (vs : List A) (v : A) → put_all table (map part (vs ++ v ∷ [])) ≡ put (put_all table (map part vs)) (part v)
pushed part table vs v = rw (map-append part vs (v ∷ [])) (put_all-push table (map part vs) (part v))

-- One view more at the end of a list has its samples put back last.
pub coded_frame-push : (f : Three PlaneView) (vs : List View) (v : View) → coded_frame f (vs ++ v ∷ []) ≡ put_cuts (coded_frame f vs) v.ts.rec
coded_frame-push f vs v = λ i. record {
  y = record f.y { samples = pushed (λ w. w.ts.rec.y) f.y.samples vs v i };
  u = record f.u { samples = pushed (λ w. w.ts.rec.u) f.u.samples vs v i };
  v = record f.v { samples = pushed (λ w. w.ts.rec.v) f.v.samples vs v i };
}

-- One view more at the end of a list has its blocks put back last.
pub coded_blocks-push : (blocks : List Block) (vs : List View) (v : View) → coded_blocks blocks (vs ++ v ∷ []) ≡ put (coded_blocks blocks vs) v.blocks
coded_blocks-push blocks vs v = pushed (λ w. w.blocks) blocks vs v

-- Putting no view back leaves the blocks as they are.
pub coded_blocks-none : (blocks : List Block) → coded_blocks blocks [] ≡ blocks
coded_blocks-none blocks = put_all-none blocks

-- putting no view back leaves the units as they are
coded_units-none : (s : Three Units) → coded_units s [] ≡ s
coded_units-none s = λ i. record {
  y = record s.y { entries = put_all-none s.y.entries i };
  u = record s.u { entries = put_all-none s.u.entries i };
  v = record s.v { entries = put_all-none s.v.entries i };
}

-- one view more at the end of a list has its units put back last
coded_units-push : (s : Three Units) (vs : List View) (v : View) → coded_units s (vs ++ v ∷ []) ≡ put_units (coded_units s vs) v.ts.units
coded_units-push s vs v = λ i. record {
  y = record s.y { entries = pushed (λ w. w.ts.units.y) s.y.entries vs v i };
  u = record s.u { entries = pushed (λ w. w.ts.units.u) s.u.entries vs v i };
  v = record s.v { entries = pushed (λ w. w.ts.units.v) s.v.entries vs v i };
}

-- putting no view back leaves the tables as they are
pub coded_tables-none : (tables : Tables) → coded_tables tables [] ≡ tables
unfolding coded_motion
coded_tables-none tables = λ i. record {
  rec = coded_frame-none tables.rec i;
  motion = tables.motion;
  units = coded_units-none tables.units i;
  blocks = record tables.blocks { entries = coded_blocks-none tables.blocks.entries i };
}

-- One view more at the end of a list has its motion records put back last.
coded_motion-push : (tables : List (Rows MEStats)) (vs : List View) (v : View) → coded_motion tables (vs ++ v ∷ []) ≡ put_motion (coded_motion tables vs) v.ts.me_stats
unfolding coded_motion
coded_motion-push tables [] v = refl
coded_motion-push tables (w ∷ vs) v = coded_motion-push (put_motion tables w.ts.me_stats) vs v

-- one view more at the end of a list is put back last
pub coded_tables-push : (tables : Tables) (vs : List View) (v : View) → coded_tables tables (vs ++ v ∷ []) ≡ put_view (coded_tables tables vs) v
coded_tables-push tables vs v = λ i. record {
  rec = coded_frame-push tables.rec vs v i;
  motion = coded_motion-push tables.motion vs v i;
  units = coded_units-push tables.units vs v i;
  blocks = record tables.blocks { entries = coded_blocks-push tables.blocks.entries vs v i };
}

-- putting no parts back leaves the motion tables as they are
pub put_motion-none : (tables : List (Rows MEStats)) → put_motion tables [] ≡ tables
unfolding put_motion
put_motion-none [] = refl
put_motion-none (table ∷ tables) = refl

-- a motion table without a part of its own stays
pub put_motion-beyond : (tables : List (Rows MEStats)) (parts : List (Part MEStats)) (k : ℕ) (d : Rows MEStats) → length parts ≤ k → get_or (put_motion tables parts) k d ≡ get_or tables k d
unfolding put_motion
put_motion-beyond [] parts k d l = refl
put_motion-beyond (table ∷ tables) [] k d l = refl
put_motion-beyond (table ∷ tables) (part ∷ parts) zero d l = absurd (omega arith)
put_motion-beyond (table ∷ tables) (part ∷ parts) (suc k) d l = put_motion-beyond tables parts k d (omega arith)

-- one part more is put back into the next motion table
pub put_motion-push : (tables : List (Rows MEStats)) (parts : List (Part MEStats)) (part : Part MEStats) (d : Rows MEStats) → length parts < length tables
    → put_motion tables (parts ++ part ∷ []) ≡ set (put_motion tables parts) (length parts) (put_in (get_or tables (length parts) d) part)
unfolding put_motion
put_motion-push [] parts part d l = absurd (omega arith)
put_motion-push (table ∷ tables) [] part d l = ap (λ rest. put_in table part ∷ rest) (put_motion-none tables)
put_motion-push (table ∷ tables) (p ∷ parts) part d l = ap (λ rest. put_in table p ∷ rest) (put_motion-push tables parts part d (omega arith))

-- one turn of the loop puts one part back into its table
pub put_motion_step : (old now : List (Rows MEStats)) (parts : List (Part MEStats)) (i : ℕ) (t new : Rows MEStats) (p : Part MEStats) → i < length parts → length parts ≡ length old
    → now ≡ put_motion old (take i parts) → p ≡ get_or parts i p → new ≡ put_in (get_or now i t) p → set now i new ≡ put_motion old (take (i + 1) parts)
put_motion_step old now parts i t new p l long e is made =
    let short : length (take i parts) ≡ i = omega (arith, length-take i parts) in
    let table : get_or now i t ≡ get_or old i t = ap (λ xs. get_or xs i t) e ∙ put_motion-beyond old (take i parts) i t (omega arith) in
    let pushed : put_motion old (take i parts ++ p ∷ []) ≡ set (put_motion old (take i parts)) i (put_in (get_or old i t) p) =
    subst (λ n. put_motion old (take i parts ++ p ∷ []) ≡ set (put_motion old (take i parts)) n (put_in (get_or old n t) p)) short (put_motion-push old (take i parts) p t (omega arith)) in
    let entry : new ≡ put_in (get_or old i t) p = made ∙ ap (λ m. put_in m p) table in
    let more : take i parts ++ p ∷ [] ≡ take (i + 1) parts = ap (λ q. take i parts ++ q ∷ []) is ∙ sym (take_more parts i p l) in
    (λ j. set (e j) i (entry j)) ∙ (sym pushed ∙ ap (put_motion old) more)

-- Putting parts back keeps the number of motion tables.
pub length-put_motion : (tables : List (Rows MEStats)) (parts : List (Part MEStats)) → length (put_motion tables parts) ≡ length tables
unfolding put_motion
length-put_motion [] parts = refl
length-put_motion (table ∷ tables) [] = refl
length-put_motion (table ∷ tables) (part ∷ parts) = omega (arith, length-put_motion tables parts)

pub ruleset tiles = (coded_tables-none, coded_tables-push)
