-- Parts put into a table one after another leave at each place what the relation by places says, and nothing else does.
use Rattle.std.proofs.Common.{◌≡◌, ℕ, zero, suc, ℤ, ◌+◌, ◌-◌, ◌*◌, ◌/◌, ◌%◌, ◌<◌, ◌≤◌, ◌⊎◌, inl, inr, List, [], ◌∷◌, length, map, get_or, All, refl, sym, ap, subst, ◌∙◌, arith}
use Rattle.std.specs.Prelude.{Option, Some, slice_get, unwrap_or}
use Rattle.std.proofs.Math.Nat.{mul-le-mul_right}
use Rattle.std.proofs.lemmas.Bool.{cases_lt, cases_order}
use Rattle.std.proofs.lemmas.Nat.{div-add-mod', mod_below}
use Rattle.std.specs.List.Sorted.{IsPermutation}
use Rattle.std.proofs.lemmas.List.{ext_get_or, get_or_default}
use Rattle.std.proofs.lemmas.List.Sorted.{All-permutation, IsPermutation-sym}
use Rattle.std.proofs.lemmas.List.Elements.{All-nil, All-cons, All-head, All-tail}
use Rattle.std.proofs.lemmas.Option.{slice_get-get_or, slice_get_past, unwrap_or-slice_get}
use Rattle.av1_plane.specs.declared.tile_rect.TileRect.{TileRect}
use Rattle.av1_block.specs.Cut.{LiesIn, IsInside, with_cut}
use Rattle.av1_block.proofs.Cuts.{with_cut_inside, with_cut_outside, with_cut_elsewhere, length-with_cut}
use Rattle.std.specs.List.{AllZip}
use Rattle.std.proofs.lemmas.Slice.Zip.{AllZip-long}
use Rattle.av1_block.specs.declared.me_stats.MEStats.{MEStats}
use Rattle.av1_block.specs.Rows.{Rows}
use Rattle.av1_block.specs.declared.restoration_unit.RestorationUnit.{RestorationUnit}
use Rattle.av1_tiling.specs.Restoration.{Units}
use Rattle.av1_tiling.specs.Views.{View, Part, PlaneView}
use Rattle.av1_tiling.specs.Laws.{PutsInAnyOrder}
use Rattle.av1_tiling.specs.Puts.{Tables, put, put_all, put_in, put_motion, put_view, coded_motion, coded_tables, PartLies}
use Rattle.av1_tiling.specs.Coded.{IsCovered, entry_in, HasParts, IsTablePart, ArePartsApart, ViewLies, AreViewsApart, IsCodedPlane, IsCodedTable, IsCodedUnitTable, AreCoded, motion_part, no_part}
use Rattle.av1_tiling.proofs.PutBack.{length-put_motion}

-- lists of one length that agree at each place
same_list : {E : Type 0} (xs ys : List E) → length xs ≡ length ys → ((k : ℕ) → slice_get xs k ≡ slice_get ys k) → xs ≡ ys
same_list [] [] long same = refl
same_list [] (y ∷ ys) long same = absurd (omega arith)
same_list (x ∷ xs) ys long same = ext_get_or x (x ∷ xs) ys long (λ k l. sym (unwrap_or-slice_get (x ∷ xs) k x) ∙ (ap (λ (o : Option _). unwrap_or o x) (same k) ∙ unwrap_or-slice_get ys k x))

-- entries that agree whatever stands past the end
same_entry : {E : Type 0} (xs ys : List E) (i j : ℕ) → i < length xs → j < length ys → ((d : E) → get_or xs i d ≡ get_or ys j d) → slice_get xs i ≡ slice_get ys j
same_entry [] ys i j l m same = absurd (omega arith)
same_entry (x ∷ xs) ys i j l m same = slice_get-get_or (x ∷ xs) i x l ∙ (ap (λ e. Some e) (same x) ∙ sym (slice_get-get_or ys j x m))

-- tables of one length with equal entries at a place agree there
same_place : {E : Type 0} (xs ys : List E) (k : ℕ) → length xs ≡ length ys → ((d : E) → get_or xs k d ≡ get_or ys k d) → slice_get xs k ≡ slice_get ys k
same_place xs ys k long same = elim (cases_lt k (length xs)) [
  | inl l ↦ same_entry xs ys k k l (omega arith) same
  | inr past ↦ slice_get_past xs k past ∙ sym (slice_get_past ys k (omega arith))
]

-- a place is in a rectangle or beside it
inside_or_not : (r : TileRect) (u v : ℕ) → IsInside r u v ⊎ ((u < r.x) ⊎ ((r.x + r.width ≤ u) ⊎ ((v < r.y) ⊎ (r.y + r.height ≤ v))))
inside_or_not r u v = elim (cases_lt u r.x) [
  | inl left ↦ inr (inl left)
  | inr a ↦ elim (cases_lt u (r.x + r.width)) [
    | inr right ↦ inr (inr (inl right))
    | inl b ↦ elim (cases_lt v r.y) [
      | inl above ↦ inr (inr (inr (inl above)))
      | inr e ↦ elim (cases_lt v (r.y + r.height)) [
        | inr under ↦ inr (inr (inr (inr under)))
        | inl f ↦ inl (record { left = a; right = b; top = e; bottom = f })
      ]
    ]
  ]
]

-- A place that lies left, right, above or below a rectangle isn't inside it.
beside : (r : TileRect) (u v : ℕ) → (u < r.x) ⊎ ((r.x + r.width ≤ u) ⊎ ((v < r.y) ⊎ (r.y + r.height ≤ v))) → ¬ IsInside r u v
beside r u v (inl left) h = let l = h.left in omega arith
beside r u v (inr (inl right)) h = let l = h.right in omega arith
beside r u v (inr (inr (inl above))) h = let l = h.top in omega arith
beside r u v (inr (inr (inr under))) h = let l = h.bottom in omega arith

-- Each entry of a table stands inside a part's rectangle or outside it.
covered_or_not : {E : Type 0} (cols k : ℕ) (part : Part E) → IsCovered cols k part ⊎ (¬ IsCovered cols k part)
covered_or_not cols k part = elim (inside_or_not part.rect (k % cols) (k / cols)) [ inl a ↦ inl a | inr b ↦ inr (beside part.rect (k % cols) (k / cols) b) ]

-- A table with one part put back.
module _ {E : Type 0} (cols : ℕ) (table : List E) (part : Part E) (of : IsTablePart (length table) cols part) where
  -- The part's rectangle lies in the table.
  lies : LiesIn (length table) cols part.rect.x part.rect.y part.rect.width part.rect.height
  lies = subst (λ (n : ℕ). LiesIn (length table) n part.rect.x part.rect.y part.rect.width part.rect.height) of.table_cols of.lies

  -- Putting the part back writes its entries into its rectangle.
  put_is : put table part ≡ with_cut table cols part.rect.x part.rect.y part.rect.width part.rect.height part.entries
  put_is = ap (λ (n : ℕ). with_cut table n part.rect.x part.rect.y part.rect.width part.rect.height part.entries) of.table_cols

  -- Putting a part back keeps the table's length.
  pub length-put : length (put table part) ≡ length table
  length-put = ap length put_is ∙ length-with_cut table cols part.rect.x part.rect.y part.rect.width part.rect.height part.entries lies

  -- A place inside the part's rectangle has the part's entry.
  pub put_inside : (k : ℕ) → IsCovered cols k part → slice_get (put table part) k ≡ entry_in cols k part
  put_inside k h =
      let rect = part.rect in
      let left = h.left in let right = h.right in let top = h.top in let bottom = h.bottom in
      let across = lies.across in
      let down = lies.down in
      let row : k / cols * cols + k % cols ≡ k = div-add-mod' k cols in
      let high : (k / cols + 1) * cols ≤ (rect.y + rect.height) * cols = mul-le-mul_right cols (omega arith) in
      let below : k < length table = omega arith in
      let i = k % cols - rect.x in
      let j = k / cols - rect.y in
      let place : (rect.y + j) * cols + rect.x + i ≡ k =
      ap (λ (v : ℕ). v * cols + rect.x + i) (let e : rect.y + j ≡ k / cols = omega arith in e) ∙ omega arith in
      let area : (j + 1) * rect.width ≤ rect.height * rect.width = mul-le-mul_right rect.width (omega arith) in
      let whole = of.whole in
      let short : j * rect.width + i < length part.entries = omega arith in
      let long = length-put in
      same_entry (put table part) part.entries k (j * rect.width + i) (omega arith) short
      (λ d. ap (λ (xs : List E). get_or xs k d) put_is
      ∙ (ap (λ (n : ℕ). get_or (with_cut table cols rect.x rect.y rect.width rect.height part.entries) n d) (sym place)
      ∙ with_cut_inside table cols rect.x rect.y rect.width part.entries d rect.height i j lies (omega arith) (omega arith) (omega arith)))

  -- A place outside the part's rectangle stays as it was.
  pub put_beside : (k : ℕ) → ¬ IsCovered cols k part → slice_get (put table part) k ≡ slice_get table k
  put_beside k h =
      let rect = part.rect in
      let across = lies.across in
      let row : k / cols * cols + k % cols ≡ k = div-add-mod' k cols in
      same_place (put table part) table k length-put
      (λ d. ap (λ (xs : List E). get_or xs k d) put_is ∙ elim (cases_lt 0 cols) [
        | inl some ↦ elim (inside_or_not rect (k % cols) (k / cols)) [
          | inl inside ↦ absurd (h inside)
          | inr out ↦ subst (λ (n : ℕ). get_or (with_cut table cols rect.x rect.y rect.width rect.height part.entries) n d ≡ get_or table n d) row
              (with_cut_outside table cols rect.x rect.y rect.width rect.height part.entries (k % cols) (k / cols) d lies (mod_below k cols some) out)
        ]
        | inr none ↦ with_cut_elsewhere table cols rect.x rect.y rect.width part.entries d rect.height k lies
            (λ j less. inr (let z : (rect.y + j) * cols ≡ 0 = ap (λ (n : ℕ). (rect.y + j) * n) (let e : cols ≡ 0 = omega arith in e) ∙ omega arith in omega arith))
      ])

-- parts of a table are parts of another of its length
parts_of : {E : Type 0} (n m cols : ℕ) (parts : List (Part E)) → m ≡ n → All (IsTablePart n cols) parts → All (IsTablePart m cols) parts
parts_of n m cols parts e each = subst (λ (k : ℕ). All (IsTablePart k cols) parts) (sym e) each

-- two tables agree at a place inside or outside all parts
one_entry : {E : Type 0} (cols k : ℕ) (parts : List (Part E)) (x y old : Option E)
    → All (λ p. IsCovered cols k p → x ≡ entry_in cols k p) parts → All (λ p. IsCovered cols k p → y ≡ entry_in cols k p) parts
    → (All (λ p. ¬ IsCovered cols k p) parts → x ≡ old) → (All (λ p. ¬ IsCovered cols k p) parts → y ≡ old) → x ≡ y
one_entry {E} cols k [] x y old a b c d =
    let none = All-nil (λ (p : Part E). ¬ IsCovered cols k p) in
    c none ∙ sym (d none)
one_entry cols k (part ∷ parts) x y old a b c d = elim (covered_or_not cols k part) [
  | inl h ↦ All-head (λ p. IsCovered cols k p → x ≡ entry_in cols k p) part parts a h ∙ sym (All-head (λ p. IsCovered cols k p → y ≡ entry_in cols k p) part parts b h)
  | inr h ↦ one_entry cols k parts x y old (All-tail (λ p. IsCovered cols k p → x ≡ entry_in cols k p) part parts a) (All-tail (λ p. IsCovered cols k p → y ≡ entry_in cols k p) part parts b)
      (λ out. c (All-cons (λ p. ¬ IsCovered cols k p) part parts h out)) (λ out. d (All-cons (λ p. ¬ IsCovered cols k p) part parts h out))
]

-- two parts that cover a place have equal entries there
abbrev Agree : {E : Type 0} → (cols k : ℕ) → Part E → Part E → Type 0
Agree cols k p q = IsCovered cols k p → IsCovered cols k q → entry_in cols k p ≡ entry_in cols k q

-- any two parts of a list that cover a place have equal entries there
AgreeAt : {E : Type 0} → (cols k : ℕ) → List (Part E) → Type 0
AgreeAt cols k parts = All (λ p. All (Agree cols k p) parts) parts

-- no place is covered twice where parts are apart
agree_apart : {E : Type 0} (cols : ℕ) (parts : List (Part E)) → ArePartsApart parts → (k : ℕ) → AgreeAt cols k parts
unfolding AgreeAt
agree_apart cols parts apart k i d l j e m = elim (cases_order i j) [
  | inl same ↦ λ p q. ap (λ (n : ℕ). entry_in cols k (get_or parts n d)) same ∙ ap (entry_in cols k) (get_or_default parts j d e m)
  | inr (inl before) ↦ λ p q. absurd (apart i j d before m (k % cols) (k / cols) p (subst (IsCovered cols k) (get_or_default parts j e d m) q))
  | inr (inr after) ↦ λ p q. absurd (apart j i e after l (k % cols) (k / cols) q (subst (IsCovered cols k) (get_or_default parts i d e l) p))
]

-- parts that agree at a place agree there in every order
agree_moved : {E : Type 0} (cols k : ℕ) (parts other : List (Part E)) → IsPermutation parts other → AgreeAt cols k parts → AgreeAt cols k other
unfolding AgreeAt
agree_moved cols k parts other moved agree =
    All-permutation (λ p. All (Agree cols k p) other) parts other moved (λ i d l. All-permutation (Agree cols k (get_or parts i d)) parts other moved (agree i d l))

-- a list of parts that agree, put in one after another
agree_has : {E : Type 0} (cols : ℕ) (parts : List (Part E)) (table : List E) → All (IsTablePart (length table) cols) parts → ((k : ℕ) → AgreeAt cols k parts) → HasParts cols parts table (put_all table parts)
unfolding put_all AgreeAt
agree_has cols [] table each agree = record { length = refl; inside = λ k n d l. absurd (omega arith); elsewhere = λ k _. refl }
agree_has cols (part ∷ parts) table each agree =
    let of = All-head (IsTablePart (length table) cols) part parts each in
    let long = length-put cols table part of in
    let rest = agree_has cols parts (put table part) (parts_of (length table) (length (put table part)) cols parts long (All-tail (IsTablePart (length table) cols) part parts each))
    (λ k n d l. All-tail (Agree cols k (get_or parts n d)) part parts (All-tail (λ p. All (Agree cols k p) (part ∷ parts)) part parts (agree k) n d l)) in
    record {
      length = rest.length ∙ long;
      inside = λ k. All-cons (λ p. IsCovered cols k p → slice_get (put_all (put table part) parts) k ≡ entry_in cols k p) part parts
          (λ h. one_entry cols k parts (slice_get (put_all (put table part) parts) k) (entry_in cols k part) (entry_in cols k part) (rest.inside k)
          (λ n d l q. All-tail (Agree cols k part) part parts (All-head (λ p. All (Agree cols k p) (part ∷ parts)) part parts (agree k)) n d l h q)
          (λ out. rest.elsewhere k out ∙ put_inside cols table part of k h) (λ _. refl))
          (rest.inside k);
      elsewhere = λ k out.
          rest.elsewhere k (All-tail (λ p. ¬ IsCovered cols k p) part parts out)
          ∙ put_beside cols table part of k (All-head (λ p. ¬ IsCovered cols k p) part parts out);
    }

-- parts with no place in common are all in the table once they are put back
pub has_parts : {E : Type 0} (cols : ℕ) (parts : List (Part E)) (table : List E) → All (IsTablePart (length table) cols) parts → ArePartsApart parts → HasParts cols parts table (put_all table parts)
has_parts cols parts table each apart = agree_has cols parts table each (agree_apart cols parts apart)

-- A table has at most one list of entries that has these parts.
pub parts_unique : {E : Type 0} (cols : ℕ) (parts : List (Part E)) (old new other : List E) → HasParts cols parts old new → HasParts cols parts old other → new ≡ other
parts_unique cols parts old new other a b =
    same_list new other (a.length ∙ sym b.length)
    (λ k. one_entry cols k parts (slice_get new k) (slice_get other k) (slice_get old k) (a.inside k) (b.inside k) (a.elsewhere k) (b.elsewhere k))

-- parts in another order are parts of the tables that they were parts of
moved_parts : {E : Type 0} (cols : ℕ) (parts other : List (Part E)) (old new : List E) → IsPermutation parts other → HasParts cols parts old new → HasParts cols other old new
moved_parts cols parts other old new moved has = record {
  length = has.length;
  inside = λ k. All-permutation (λ p. IsCovered cols k p → slice_get new k ≡ entry_in cols k p) parts other moved (has.inside k);
  elsewhere = λ k out. has.elsewhere k (All-permutation (λ p. ¬ IsCovered cols k p) other parts (IsPermutation-sym parts other moved) out);
}

-- putting parts back in any order gives one table
pub puts_in_any_order : {E : Type 0} → PutsInAnyOrder E
puts_in_any_order cols parts other table each apart moved =
    parts_unique cols other table (put_all table parts) (put_all table other)
    (moved_parts cols parts other table (put_all table parts) moved (has_parts cols parts table each apart))
    (agree_has cols other table (All-permutation (IsTablePart (length table) cols) parts other moved each) (λ k. agree_moved cols k parts other moved (agree_apart cols parts apart k)))

-- the parts of views that lie in tables belong to the table
each_of : {E : Type 0} (tables : Tables) (part : View → Part E) (m c : ℕ) → ((v : View) → ViewLies tables v → IsTablePart m c (part v)) → (views : List View) → All (ViewLies tables) views → All (IsTablePart m c) (map part views)
each_of tables part m c of [] each = All-nil (IsTablePart m c)
each_of tables part m c of (v ∷ views) each =
    All-cons (IsTablePart m c) (part v) (map part views) (of v (All-head (ViewLies tables) v views each)) (each_of tables part m c of views (All-tail (ViewLies tables) v views each))

-- motion tables with their parts put back have the sides that they had
pub zip_lies : (tables : List (Rows MEStats)) (parts : List (Part MEStats)) → AllZip (λ t part. IsTablePart (length t.entries) t.cols part) tables parts
    → AllZip (λ t part. PartLies (length t.entries) part) tables parts
zip_lies [] [] of = tt
zip_lies [] (part ∷ parts) of = absurd of
zip_lies (t ∷ tables) [] of = absurd of
zip_lies (t ∷ tables) (part ∷ parts) of = (of.0.lies, zip_lies tables parts of.1)

-- tables with parts put back have room for others
put_motion_lies : (tables : List (Rows MEStats)) (parts others : List (Part MEStats)) → AllZip (λ t part. IsTablePart (length t.entries) t.cols part) tables parts
    → AllZip (λ t part. IsTablePart (length t.entries) t.cols part) tables others → AllZip (λ t part. IsTablePart (length t.entries) t.cols part) (put_motion tables parts) others
unfolding put_motion
put_motion_lies [] parts others of of' = of'
put_motion_lies (t ∷ tables) [] others of of' = absurd of
put_motion_lies (t ∷ tables) (p ∷ parts) [] of of' = absurd of'
put_motion_lies (t ∷ tables) (p ∷ parts) (q ∷ others) of of' = (
  subst (λ n. IsTablePart n t.cols q) (sym (length-put t.cols t.entries p of.0)) of'.0,
  put_motion_lies tables parts others of.1 of'.1,
)

-- a view belongs to tables into which another view was put back
pub put_view_lies : (tables : Tables) (v w : View) → ViewLies tables v → ViewLies tables w → ViewLies (put_view tables v) w
put_view_lies tables v w a b = record {
  y = subst (λ n. IsTablePart n tables.rec.y.cfg.stride w.ts.rec.y) (sym (length-put tables.rec.y.cfg.stride tables.rec.y.samples v.ts.rec.y a.y)) b.y;
  u = subst (λ n. IsTablePart n tables.rec.u.cfg.stride w.ts.rec.u) (sym (length-put tables.rec.u.cfg.stride tables.rec.u.samples v.ts.rec.u a.u)) b.u;
  v = subst (λ n. IsTablePart n tables.rec.v.cfg.stride w.ts.rec.v) (sym (length-put tables.rec.v.cfg.stride tables.rec.v.samples v.ts.rec.v a.v)) b.v;
  motion = put_motion_lies tables.motion v.ts.me_stats w.ts.me_stats a.motion b.motion;
  y_units = subst (λ n. IsTablePart n tables.units.y.cols w.ts.units.y) (sym (length-put tables.units.y.cols tables.units.y.entries v.ts.units.y a.y_units)) b.y_units;
  u_units = subst (λ n. IsTablePart n tables.units.u.cols w.ts.units.u) (sym (length-put tables.units.u.cols tables.units.u.entries v.ts.units.u a.u_units)) b.u_units;
  v_units = subst (λ n. IsTablePart n tables.units.v.cols w.ts.units.v) (sym (length-put tables.units.v.cols tables.units.v.entries v.ts.units.v a.v_units)) b.v_units;
  blocks = subst (λ n. IsTablePart n tables.blocks.cols w.blocks) (sym (length-put tables.blocks.cols tables.blocks.entries v.blocks a.blocks)) b.blocks;
}

-- what holds of two lists place by place holds at each place
pub zip_at : {A B : Type 0} (R : A → B → Type 0) (xs : List A) (ys : List B) (i : ℕ) (d : A) (e : B) → AllZip R xs ys → i < length xs → R (get_or xs i d) (get_or ys i e)
zip_at R [] ys i d e zip l = absurd (omega arith)
zip_at R (x ∷ xs) [] i d e zip l = absurd zip
zip_at R (x ∷ xs) (y ∷ ys) zero d e zip l = zip.0
zip_at R (x ∷ xs) (y ∷ ys) (suc i) d e zip l = zip_at R xs ys i d e zip.1 (omega arith)

-- a motion table with its part put back, by its number
put_motion_at : (tables : List (Rows MEStats)) (parts : List (Part MEStats)) (i : ℕ) (d : Rows MEStats) (e : Part MEStats) → length parts ≡ length tables → i < length tables
    → get_or (put_motion tables parts) i d ≡ put_in (get_or tables i d) (get_or parts i e)
unfolding put_motion
put_motion_at [] parts i d e same l = absurd (omega arith)
put_motion_at (table ∷ tables) [] i d e same l = absurd (omega arith)
put_motion_at (table ∷ tables) (part ∷ parts) zero d e same l = refl
put_motion_at (table ∷ tables) (part ∷ parts) (suc i) d e same l = put_motion_at tables parts i d e (omega arith) (omega arith)

-- views that have a part of each of n tables
HasAll : ℕ → View → Type 0
HasAll n v = length v.ts.me_stats ≡ n

-- Putting views back keeps the number of motion tables.
length-coded_motion : (tables : List (Rows MEStats)) (views : List View) → length (coded_motion tables views) ≡ length tables
unfolding coded_motion
length-coded_motion tables [] = refl
length-coded_motion tables (v ∷ views) = length-coded_motion (put_motion tables v.ts.me_stats) views ∙ length-put_motion tables v.ts.me_stats

-- a motion table with the parts of all views put back, by its number
coded_motion_at : (tables : List (Rows MEStats)) (views : List View) (i : ℕ) (d : Rows MEStats) → All (HasAll (length tables)) views → i < length tables
    → get_or (coded_motion tables views) i d ≡ record (get_or tables i d) { entries = put_all (get_or tables i d).entries (map (motion_part i) views) }
unfolding coded_motion put_all HasAll
coded_motion_at tables [] i d each l = refl
coded_motion_at tables (v ∷ views) i d each l =
    let long = length-put_motion tables v.ts.me_stats in
    let first = put_motion_at tables v.ts.me_stats i d no_part (All-head (λ w. length w.ts.me_stats ≡ length tables) v views each) l in
    coded_motion_at (put_motion tables v.ts.me_stats) views i d (subst (λ n. All (λ w. length w.ts.me_stats ≡ n) views) (sym long) (All-tail (λ w. length w.ts.me_stats ≡ length tables) v views each)) (omega arith)
    ∙ ap (λ (t : Rows MEStats). record t { entries = put_all t.entries (map (motion_part i) views) }) first

module _ (tables : Tables) (views : List View) (each : All (ViewLies tables) views) where
  -- Each view has a part of every motion table.
  have_all : All (HasAll (length tables.motion)) views
  unfolding HasAll
  have_all k d l = AllZip-long (λ t part. IsTablePart (length t.entries) t.cols part) tables.motion (get_or views k d).ts.me_stats (each k d l).motion

  -- the relation by places is what putting the views back makes
  pub coded_have : AreViewsApart views → AreCoded views tables (coded_tables tables views)
  coded_have apart = record {
    rec = record {
      y = record { cfg = refl; samples = has_parts tables.rec.y.cfg.stride (map (λ v. v.ts.rec.y) views) tables.rec.y.samples (each_of tables (λ v. v.ts.rec.y) (length tables.rec.y.samples) tables.rec.y.cfg.stride (λ v h. h.y) views each) apart.y };
      u = record { cfg = refl; samples = has_parts tables.rec.u.cfg.stride (map (λ v. v.ts.rec.u) views) tables.rec.u.samples (each_of tables (λ v. v.ts.rec.u) (length tables.rec.u.samples) tables.rec.u.cfg.stride (λ v h. h.u) views each) apart.u };
      v = record { cfg = refl; samples = has_parts tables.rec.v.cfg.stride (map (λ v. v.ts.rec.v) views) tables.rec.v.samples (each_of tables (λ v. v.ts.rec.v) (length tables.rec.v.samples) tables.rec.v.cfg.stride (λ v h. h.v) views each) apart.v };
    };
    motion = record {
      count = length-coded_motion tables.motion views;
      tables = λ i d l.
          let table = get_or tables.motion i d in
          subst (IsCodedTable (map (motion_part i) views) table) (sym (coded_motion_at tables.motion views i d have_all l)) (record {
            cols = refl;
            rows = refl;
            entries = has_parts table.cols (map (motion_part i) views) table.entries
                (each_of tables (motion_part i) (length table.entries) table.cols (λ v h. zip_at (λ t part. IsTablePart (length t.entries) t.cols part) tables.motion v.ts.me_stats i d no_part h.motion l) views each)
                (apart.motion i);
          });
    };
    units = record {
      y = record { cfg = refl; cols = refl; rows = refl; entries = has_parts tables.units.y.cols (map (λ v. v.ts.units.y) views) tables.units.y.entries (each_of tables (λ v. v.ts.units.y) (length tables.units.y.entries) tables.units.y.cols (λ v h. h.y_units) views each) apart.y_units };
      u = record { cfg = refl; cols = refl; rows = refl; entries = has_parts tables.units.u.cols (map (λ v. v.ts.units.u) views) tables.units.u.entries (each_of tables (λ v. v.ts.units.u) (length tables.units.u.entries) tables.units.u.cols (λ v h. h.u_units) views each) apart.u_units };
      v = record { cfg = refl; cols = refl; rows = refl; entries = has_parts tables.units.v.cols (map (λ v. v.ts.units.v) views) tables.units.v.entries (each_of tables (λ v. v.ts.units.v) (length tables.units.v.entries) tables.units.v.cols (λ v h. h.v_units) views each) apart.v_units };
    };
    blocks = record {
      cols = refl;
      rows = refl;
      entries = has_parts tables.blocks.cols (map (λ v. v.blocks) views) tables.blocks.entries
          (each_of tables (λ v. v.blocks) (length tables.blocks.entries) tables.blocks.cols (λ v h. h.blocks) views each) apart.blocks;
    };
  }

-- a table and a plane have one content by their parts
same_plane : (parts : List (Part ℤ)) (old new other : PlaneView) → IsCodedPlane parts old new → IsCodedPlane parts old other → new ≡ other
same_plane parts old new other a b = λ i. record {
  cfg = (a.cfg ∙ sym b.cfg) i;
  samples = parts_unique old.cfg.stride parts old.samples new.samples other.samples a.samples b.samples i;
}

-- Two tables that are coded from one table by the same parts have equal entries.
same_table : {E : Type 0} (parts : List (Part E)) (old new other : Rows E) → IsCodedTable parts old new → IsCodedTable parts old other → new ≡ other
same_table parts old new other a b = λ i. record {
  cols = (a.cols ∙ sym b.cols) i;
  rows = (a.rows ∙ sym b.rows) i;
  entries = parts_unique old.cols parts old.entries new.entries other.entries a.entries b.entries i;
}

-- Two tables of units that are coded from one table by the same parts are equal.
same_units : (parts : List (Part RestorationUnit)) (old new other : Units) → IsCodedUnitTable parts old new → IsCodedUnitTable parts old other → new ≡ other
same_units parts old new other a b = λ i. record {
  cfg = (a.cfg ∙ sym b.cfg) i;
  cols = (a.cols ∙ sym b.cols) i;
  rows = (a.rows ∙ sym b.rows) i;
  entries = parts_unique old.cols parts old.entries new.entries other.entries a.entries b.entries i;
}

-- lists of one length with equal elements at each place are equal
same_all : {E : Type 0} (xs ys : List E) → length xs ≡ length ys → ((k : ℕ) (d : E) → k < length xs → get_or xs k d ≡ get_or ys k d) → xs ≡ ys
same_all [] [] long same = refl
same_all [] (y ∷ ys) long same = absurd (omega arith)
same_all (x ∷ xs) ys long same = ext_get_or x (x ∷ xs) ys long (λ k l. same k x l)

-- two results of coding the tables by the same views are equal
pub coded_unique : (views : List View) (old new other : Tables) → AreCoded views old new → AreCoded views old other → new ≡ other
coded_unique views old new other a b =
    let y = same_plane (map (λ v. v.ts.rec.y) views) old.rec.y new.rec.y other.rec.y a.rec.y b.rec.y in
    let u = same_plane (map (λ v. v.ts.rec.u) views) old.rec.u new.rec.u other.rec.u a.rec.u b.rec.u in
    let v = same_plane (map (λ v. v.ts.rec.v) views) old.rec.v new.rec.v other.rec.v a.rec.v b.rec.v in
    let count = a.motion.count in
    let motion : new.motion ≡ other.motion = same_all new.motion other.motion (a.motion.count ∙ sym b.motion.count)
    (λ k d l. same_table (map (motion_part k) views) (get_or old.motion k d) (get_or new.motion k d) (get_or other.motion k d) (a.motion.tables k d (omega arith)) (b.motion.tables k d (omega arith))) in
    let y_units = same_units (map (λ v. v.ts.units.y) views) old.units.y new.units.y other.units.y a.units.y b.units.y in
    let u_units = same_units (map (λ v. v.ts.units.u) views) old.units.u new.units.u other.units.u a.units.u b.units.u in
    let v_units = same_units (map (λ v. v.ts.units.v) views) old.units.v new.units.v other.units.v a.units.v b.units.v in
    let blocks = same_table (map (λ v. v.blocks) views) old.blocks new.blocks other.blocks a.blocks b.blocks in
    λ i. record { rec = record { y = y i; u = u i; v = v i }; motion = motion i; units = record { y = y_units i; u = u_units i; v = v_units i }; blocks = blocks i }

-- Tables that have each view's content are the tables with the views put back.
pub coded_are : (views : List View) (old new : Tables) → All (ViewLies old) views → AreViewsApart views → AreCoded views old new → new ≡ coded_tables old views
coded_are views old new each apart coded = coded_unique views old new (coded_tables old views) coded (coded_have old views each apart)
