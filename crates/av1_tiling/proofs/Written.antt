-- A tile whose records or blocks are written keeps its shape.
use Rattle.std.proofs.Common.{◌≡◌, ℕ, zero, suc, ◌<◌, List, [], ◌∷◌, length, get_or, slice_set, refl, sym, subst, ◌∙◌, arith, length-append, length-drop}
use Rattle.std.specs.List.{AllZip}
use Rattle.std.proofs.lemmas.List.{length-take}
use Rattle.std.proofs.lemmas.List.Elements.{AllZip-get_or}
use Rattle.av1_block.specs.declared.block.Block.{Block}
use Rattle.av1_block.specs.declared.me_stats.MEStats.{MEStats}
use Rattle.av1_block.specs.Rows.{refilled}
use Rattle.av1_tiling.specs.Views.{Part, View, SameRect, SameShape, part_with_entries, with_blocks}
use Rattle.av1_tiling.specs.Coded.{no_part}
use Rattle.av1_tiling.specs.TileViews.{with_records}

-- a list with others written over its front is as long as before
length-refilled : {E : Type 0} (old new : List E) → length (refilled old new) ≡ length old
length-refilled old new = simp (length-take, length-append, length-drop) (omega arith)

-- an element that is replaced by a related one leaves the lists related
pub AllZip-set : {A B : Type 0} (R : A → B → Type 0) (xs : List A) (ys : List B) (i : ℕ) (y : B) → AllZip R xs ys → ((d : A) → i < length xs → R (get_or xs i d) y) → AllZip R xs (slice_set ys i y)
AllZip-set R [] [] i y all here = tt
AllZip-set R [] (b ∷ ys) i y all here = absurd all
AllZip-set R (a ∷ xs) [] i y all here = absurd all
AllZip-set R (a ∷ xs) (b ∷ ys) zero y all here = (here a (omega arith), all.1)
AllZip-set R (a ∷ xs) (b ∷ ys) (suc i) y all here = (all.0, AllZip-set R xs ys i y all.1 (λ d l. here d (omega (arith, l))))

-- a part whose entries are written keeps its rectangle
part_written : {E : Type 0} (a b : Part E) (entries : List E) → SameRect a b → SameRect a (part_with_entries b entries)
part_written a b entries same = record { rect = same.rect; table_cols = same.table_cols; length = length-refilled b.entries entries ∙ same.length }

-- a view whose motion records are written keeps its shape
pub records_written : (first v : View) (i : ℕ) (records : List MEStats) → SameShape first v → SameShape first (record v { ts = with_records v.ts i records })
records_written first v i records shape = record {
  y = shape.y;
  u = shape.u;
  v = shape.v;
  y_units = shape.y_units;
  u_units = shape.u_units;
  v_units = shape.v_units;
  motion = AllZip-set SameRect first.ts.me_stats v.ts.me_stats i _ shape.motion
      (λ d l. part_written _ _ records (AllZip-get_or SameRect first.ts.me_stats v.ts.me_stats i d no_part shape.motion l));
  blocks = shape.blocks;
  mi_cols = shape.mi_cols;
  mi_rows = shape.mi_rows;
  frame_cols = shape.frame_cols;
  frame_rows = shape.frame_rows;
}

-- a view whose blocks are written keeps its shape
pub blocks_written : (first v : View) (blocks : List Block) → SameShape first v → SameShape first (with_blocks v blocks)
blocks_written first v blocks shape = record {
  y = shape.y;
  u = shape.u;
  v = shape.v;
  y_units = shape.y_units;
  u_units = shape.u_units;
  v_units = shape.v_units;
  motion = shape.motion;
  blocks = part_written first.blocks v.blocks blocks shape.blocks;
  mi_cols = shape.mi_cols;
  mi_rows = shape.mi_rows;
  frame_cols = shape.frame_cols;
  frame_rows = shape.frame_rows;
}

-- a part has its own rectangle
same_rect : {E : Type 0} (p : Part E) → SameRect p p
same_rect p = record { rect = refl; table_cols = refl; length = refl }

-- parts have their own rectangles
same_rects : {E : Type 0} (parts : List (Part E)) → AllZip SameRect parts parts
same_rects [] = tt
same_rects (p ∷ parts) = (same_rect p, same_rects parts)

-- a view has its own shape
same_shape : (v : View) → SameShape v v
same_shape v = record {
  y = same_rect v.ts.rec.y;
  u = same_rect v.ts.rec.u;
  v = same_rect v.ts.rec.v;
  y_units = same_rect v.ts.units.y;
  u_units = same_rect v.ts.units.u;
  v_units = same_rect v.ts.units.v;
  motion = same_rects v.ts.me_stats;
  blocks = same_rect v.blocks;
  mi_cols = refl;
  mi_rows = refl;
  frame_cols = refl;
  frame_rows = refl;
}

-- views have their own shapes
pub same_shapes : (vs : List View) → AllZip SameShape vs vs
same_shapes [] = tt
same_shapes (v ∷ vs) = (same_shape v, same_shapes vs)

-- a view that is replaced by one of its shape leaves all shapes
pub written_at : (before after : List View) (i : ℕ) (x y : View) → AllZip SameShape before after → x ≡ get_or after i x → ((first : View) → SameShape first x → SameShape first y)
    → AllZip SameShape before (slice_set after i y)
written_at before after i x y all is keeps =
    AllZip-set SameShape before after i y all (λ d l. keeps (get_or before i d) (subst (λ (v : View). SameShape (get_or before i d) v) (sym is) (AllZip-get_or SameShape before after i d x all l)))

pub ruleset written = (records_written, blocks_written)
