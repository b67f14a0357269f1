-- What a text that is read to its end says of the picture: its rows have the frame's sides, and their samples the
-- frame's depth.
use Rattle.std.proofs.Common.{◌≡◌, ◌==◌, ℕ, ℤ, zero, suc, pos, ◌<◌, ◌^◌, List, [], ◌∷◌, length, get_or, Bool, true, false, cond, All, Option, Some, None, Result, Ok, Err, refl, sym, ap, subst, ◌∙◌, arith}
use Rattle.std.specs.Prelude.{codes, nat_lt}
use Rattle.std.specs.List.{list_all}
use Rattle.std.proofs.lemmas.Option.{option_and_then_some, same_Some}
use Rattle.std.proofs.lemmas.List.Sums.{list_all-from_AllPass}
use Rattle.std.proofs.lemmas.Bool.{ltb-true, eq-eqb}
use Rattle.av1_plane.specs.declared.three.Three.{Three}
use Rattle.av1_plane.specs.Numbers.{InDepth}
use Rattle.av1_plane.specs.Sampling.{decimation}
use Rattle.av1_tiling.specs.declared.tiling_info.TilingInfo.{TilingInfo}
use Rattle.av1_tiling.specs.Frames.{FitsDepth}
use Rattle.av1_rec.specs.declared.text.extent.Extent.{Extent}
use Rattle.av1_rec.specs.declared.text.fault.Fault.{Fault}
use Rattle.av1_rec.specs.declared.text.header.FrameFormat.{FrameFormat}
use Rattle.av1_rec.specs.declared.text.header.Header.{Header}
use Rattle.av1_rec.specs.declared.text.Text.{Text}
use Rattle.av1_rec.specs.Fields.{tag, below, hex_sample, option_bind}
use Rattle.av1_rec.specs.Header.{IsHeader}
use Rattle.av1_rec.specs.Lines.{◌>>=◌, text_line, line_or, row, many, text_rows, planes}
use Rattle.av1_rec.specs.Text.{Said, tiling, source_rows, tiles, end, body, said, luma_picture, chroma_picture, is_wide}
use Rattle.av1_rec.specs.Read.{IsRead}
use Rattle.av1_rec.specs.Picture.{AreRowsOf, HasPictureRows, AreBelow, IsPictureBelow}

-- what a step of reading gave, where all was read
bind_ok : {A B P : Type 0} (r : Result A Fault) (f : A → Result B Fault) (y : B) → (r >>= f) ≡ Ok y → ((x : A) → r ≡ Ok x → f x ≡ Ok y → P) → P
bind_ok (Ok x) f y e k = k x refl e
bind_ok (Err fault) f y e k = absurd cc

-- Two results that are equal and right hold equal values.
same_ok : {A : Type 0} (x y : A) → ◌≡◌ {A = Result A Fault} (Ok x) (Ok y) → x ≡ y
same_ok x y e = cc

-- A line that was read comes from a value that was read.
line_some : {A : Type 0} (left : ℕ) (o : Option A) (x : A) → line_or left o ≡ Ok x → o ≡ Some x
line_some left None x e = absurd cc
line_some left (Some a) x e = ap (λ b. Some b) (same_ok a x e)

-- Everything holds of all elements of an empty list.
none_of : {A : Type 0} (P : A → Type 0) → All P []
none_of P k d l = absurd (omega (arith, l))

-- What holds of an element and of a list holds of the list with the element at its front.
one_more : {A : Type 0} (P : A → Type 0) (x : A) (xs : List A) → P x → All P xs → All P (x ∷ xs)
one_more P x xs p all zero d l = p
one_more P x xs p all (suc k) d l = all k d (omega (arith, l))

-- a value that is given only under a test was given, and passed the test
if_some : (b : Bool) (v w : ℕ × List ℕ) → cond b (Some v) None ≡ Some w → (b ≡ true) × (v ≡ w)
if_some true v w e = (refl, same_Some v w e)
if_some false v w e = absurd cc

-- A sample that was read is below its limit.
below_right : (wide : Bool) (limit : ℕ) (text : List ℕ) (v : ℕ × List ℕ) → below wide limit text ≡ Some v → v.0 < limit
unfolding below
below_right wide limit text v e =
    option_and_then_some (λ (w : ℕ × List ℕ). cond (nat_lt w.0 limit) (Some w) None) (hex_sample wide text) v e (λ w read test.
    let p = if_some (nat_lt w.0 limit) w v test in
    subst (λ (u : ℕ × List ℕ). u.0 < limit) p.1 (ltb-true w.0 limit p.0))

-- a row of `count` samples, all below the limit
record IsRow (limit count : ℕ) (vs : List ℤ) : Type 0 where
  long : length vs ≡ count
  below : All (InDepth limit) vs

-- A row that was read has the asked number of samples, each below the limit.
row_right : (wide : Bool) (limit count : ℕ) (text : List ℕ) (x : List ℤ × List ℕ) → row wide limit count text ≡ Some x → IsRow limit count x.0
unfolding row
row_right wide limit zero text x e =
    option_and_then_some (λ (rest : List ℕ). Some ([], rest)) (tag (codes "\n") text) x e (λ rest read made.
    subst (λ (y : List ℤ × List ℕ). IsRow limit 0 y.0) (same_Some ([], rest) x made) (record { long = refl; below = none_of (InDepth limit) }))
row_right wide limit (suc count) text x e =
    option_and_then_some (λ (v : ℕ × List ℕ). option_bind (row wide limit count v.1) (λ vs. Some (pos v.0 ∷ vs.0, vs.1))) (below wide limit text) x e (λ v first others.
    option_and_then_some (λ (vs : List ℤ × List ℕ). Some (pos v.0 ∷ vs.0, vs.1)) (row wide limit count v.1) x others (λ vs read made.
    let so_far = row_right wide limit count v.1 vs read in
    let small : v.0 < limit = below_right wide limit text v first in
    subst (λ (y : List ℤ × List ℕ). IsRow limit (suc count) y.0) (same_Some (pos v.0 ∷ vs.0, vs.1) x made) (record {
      long = let long = so_far.long in omega (arith, long);
      below = one_more (InDepth limit) (pos v.0) vs.0 (grind arith, grind arith) so_far.below;
    })))

-- A list of parts that is read has right parts where each part that is read is right.
module _ {A : Type 0} (P : A → Type 0) (read : List ℕ → Result (A × List ℕ) Fault) (right : (text : List ℕ) (x : A × List ℕ) → read text ≡ Ok x → P x.0) where
  -- A list that was read has the asked number of parts, each of them right.
  many_right : (count : ℕ) (text : List ℕ) (x : List A × List ℕ) → many read count text ≡ Ok x → (length x.0 ≡ count) × All P x.0
  unfolding many
  many_right zero text x e =
      subst (λ (y : List A × List ℕ). (length y.0 ≡ 0) × All P y.0) (same_ok ([], text) x e) (refl, none_of P)
  many_right (suc count) text x e =
      bind_ok (read text) (λ (first : A × List ℕ). many read count first.1 >>= λ others. Ok (first.0 ∷ others.0, others.1)) x e (λ first one others.
      bind_ok (many read count first.1) (λ (others : List A × List ℕ). Ok (first.0 ∷ others.0, others.1)) x others (λ rest all made.
      let so_far = many_right count first.1 rest all in
      let long : length rest.0 ≡ count = so_far.0 in
      subst (λ (y : List A × List ℕ). (length y.0 ≡ suc count) × All P y.0) (same_ok (first.0 ∷ rest.0, rest.1) x made)
      (omega (arith, long), one_more P first.0 rest.0 (right text first one) so_far.1)))

-- rows of these sides, all samples below the limit
record AreRows (limit : ℕ) (extent : Extent) (rs : List (List ℤ)) : Type 0 where
  sides : AreRowsOf extent rs
  below : AreBelow limit rs

-- Rows that were read have the asked sides, and samples below the limit.
rows_right : (wide : Bool) (limit : ℕ) (sides : Extent) (text : List ℕ) (x : List (List ℤ) × List ℕ) → text_rows wide limit sides.width sides.height text ≡ Ok x → AreRows limit sides x.0
rows_right wide limit sides text x e =
    let right = many_right (IsRow limit sides.width) (text_line (row wide limit sides.width)) (λ t v read. row_right wide limit sides.width t v (line_some (length t) (row wide limit sides.width t) v read)) sides.height text x e in
    let long : list_all (λ row. length row == sides.width) x.0 ≡ true = list_all-from_AllPass (λ row. length row == sides.width) x.0 (λ k d l. eq-eqb (length (get_or x.0 k d)) sides.width (right.1 k d l).long) in
    record { sides = rw (right.0, eq-eqb sides.height sides.height refl) long; below = λ k d l. (right.1 k d l).below }

-- the rows of luma and of both chroma planes have these sides, and samples below the limit
record ArePlanes (limit : ℕ) (luma chroma : Extent) (s : Three (List (List ℤ))) : Type 0 where
  y : AreRows limit luma s.y
  u : AreRows limit chroma s.u
  v : AreRows limit chroma s.v

-- Planes that were read have the asked sides, and samples below the limit.
planes_right : (wide : Bool) (limit : ℕ) (luma chroma : Extent) (text : List ℕ) (x : Three (List (List ℤ)) × List ℕ) → planes wide limit luma chroma text ≡ Ok x → ArePlanes limit luma chroma x.0
unfolding planes
planes_right wide limit luma chroma text x e =
    bind_ok (text_rows wide limit luma.width luma.height text) _ x e (λ y read_y after_y.
    bind_ok (text_rows wide limit chroma.width chroma.height y.1) _ x after_y (λ u read_u after_u.
    bind_ok (text_rows wide limit chroma.width chroma.height u.1) _ x after_u (λ v read_v made.
    subst (λ (z : Three (List (List ℤ)) × List ℕ). ArePlanes limit luma chroma z.0) (same_ok (record { y = y.0; u = u.0; v = v.0 }, v.1) x made) (record {
      y = rows_right wide limit luma text y read_y;
      u = rows_right wide limit chroma y.1 u read_u;
      v = rows_right wide limit chroma u.1 v read_v;
    }))))

-- a source that was read has the sides and the depth of the frame
source_right : (f : FrameFormat) (text : List ℕ) (x : Three (List (List ℤ)) × List ℕ) → source_rows f text ≡ Ok x → HasPictureRows f x.0 × IsPictureBelow (2 ^ f.depth) x.0
unfolding source_rows
source_right f text x e =
    bind_ok (text_line (tag (codes "source\n")) text) (λ (rest : List ℕ). planes (is_wide f) (2 ^ f.depth) (luma_picture f) (chroma_picture f (decimation f.sampling)) rest) x e (λ rest word read.
    let p = planes_right (is_wide f) (2 ^ f.depth) (luma_picture f) (chroma_picture f (decimation f.sampling)) rest x read in
    (record { y = p.y.sides; u = p.u.sides; v = p.v.sides }, record { y = p.y.below; u = p.u.below; v = p.v.below }))

-- what follows a header and was read has the sides and the depth of the frame
body_right : (h : Header) (t : TilingInfo) (text : List ℕ) (s : Said) → body h t text ≡ Ok s
    → (s.header ≡ h) × (s.tiling ≡ t) × HasPictureRows h.format s.source × IsPictureBelow (2 ^ h.format.depth) s.source
unfolding body
body_right h t text s e =
    bind_ok (source_rows h.format text) _ s e (λ picture read e1.
    bind_ok (tiles h t picture.1) _ s e1 (λ results read_tiles e2.
    bind_ok (end results.1) _ s e2 (λ (last : Unit {0}) read_end made.
    let p = source_right h.format text picture read in
    subst (λ (y : Said). (y.header ≡ h) × (y.tiling ≡ t) × HasPictureRows h.format y.source × IsPictureBelow (2 ^ h.format.depth) y.source)
    (same_ok (record { header = h; tiling = t; source = picture.0; tiles = results.0 }) s made) (refl, refl, p.0, p.1))))

-- what is known of a text behind a right header
read_right : (h : Header) (t : TilingInfo) (text : List ℕ) (s : Said) → IsHeader h → tiling h ≡ Ok t → body h t text ≡ Ok s → IsRead s
read_right h t text s right tiled e =
    let p = body_right h t text s e in
    let same : s.header ≡ h = p.0 in
    record {
      header = subst IsHeader (sym same) right;
      tiling = ap tiling same ∙ tiled ∙ ap (λ (x : TilingInfo). Ok x) (sym p.1);
      sides = subst (λ (x : Header). HasPictureRows x.format s.source) (sym same) p.2;
      depth = subst (λ (x : Header). IsPictureBelow (2 ^ x.format.depth) s.source) (sym same) p.3;
    }

-- what the program keeps of a text was read to its end, with samples of the type of its depth
pub text_read : {X : Type 0} (number : X → ℤ) (limit : ℕ) (h : Header) (t : TilingInfo) (text : List ℕ) (x : Text X)
    → IsHeader h → tiling h ≡ Ok t → FitsDepth limit h.format.depth → body h t text ≡ Ok (said number x) → IsRead (said number x) × FitsDepth limit x.header.format.depth
text_read number limit h t text x right tiled fits e =
    (read_right h t text (said number x) right tiled e, subst (λ (y : Header). FitsDepth limit y.format.depth) (sym (body_right h t text (said number x) e).0) fits)
