-- The results of a frame's tiles, by number.
use Rattle.std.proofs.Common.{◌≡◌, ℕ, zero, suc, ◌+◌, ◌*◌, ◌^◌, ◌<◌, ◌≤◌, List, [], ◌∷◌, ◌++◌, length, map, take, get_or, slice_get, Option, Some, None, IfSome, IfOk, Result, Ok, Err, refl, sym, ap, ◌∙◌, subst, arith}
use mathlib.Core.Option.{some, some-injective, some-ne-none}
use lib.ListN.{get_elem?}
use Rattle.std.specs.List.{AllZip}
use Rattle.std.proofs.lemmas.List.{take_more}
use Rattle.std.proofs.lemmas.Slice.Zip.{all_zipped_more}
use Rattle.av1_block.specs.declared.block.Block.{Block}
use Rattle.av1_tiling.specs.declared.tiling_info.TilingInfo.{TilingInfo}
use Rattle.av1_tiling.specs.Frames.{State, IsTilingOf, views}
use Rattle.av1_tiling.specs.Views.{View, SameShape}
use Rattle.av1_tiling.proofs.Inside.{tiling_facts}
use Rattle.av1_tiling.proofs.TilePlaces.{tile_count-le}
use Rattle.av1_tiling.proofs.LawProofs.{cols-pos, tile_high-pos}
use Rattle.std.proofs.lemmas.Nat.{pow_pos, mul-lt}
use Rattle.av1_tiling.proofs.GridFacts.{div_ceil-pos}
use Rattle.av1_tiling.specs.TileRects.{superblock_rows}
use Rattle.av1_tiling.proofs.ViewPlaces.{length-views}
use Rattle.av1_frame.specs.declared.coded_tile.CodedTile.{CodedTile}
use Rattle.av1_frame.specs.declared.coder.CodeError.{CodeError}
use Rattle.av1_frame.specs.declared.coder.CodeError.TheVariants.{Refused}
use Rattle.av1_frame.specs.declared.delivered.Delivered.{Delivered}
use Rattle.av1_frame.specs.declared.doing.About.{About}
use Rattle.av1_frame.specs.AtHome.{IsResult, IsResultOf, GivesResults}
use Rattle.av1_frame.specs.Coding.{Meaning, KeepsShape}
use Rattle.av1_frame.specs.Results.{result_of}
use Rattle.av1_frame.specs.Worked.{IsCodedFrom, IsTileResult, SaysResult}
use Rattle.av1_frame.proofs.Gathers.{at_slice}

-- the result of a view is the result of its tile
pub tile_said : {X : Type 0} (meaning : View → Meaning) (all : List View) (n : ℕ) (v : View) (done : Delivered X) (tile : Option (CodedTile X)) → get_elem? all n ≡ some v
    → IsResult (meaning v) v done → SaysResult done tile → IsTileResult meaning all n tile
tile_said meaning all n v done tile at is says =
    let said = says (meaning v) v is in (v, at, (said.0, subst (KeepsShape v) (sym said.0) said.1))

-- the entry of a list at a number below its length
pub at_index : {A : Type 0} (l : List A) (n : ℕ) (a : A) → n < length l → a ≡ get_or l n a → get_elem? l n ≡ some a
at_index [] n a h e = absurd (omega arith)
at_index (x ∷ xs) zero a h e = ap (λ (y : _). some y) (sym e)
at_index (x ∷ xs) (suc n) a h e = at_index xs n a (omega arith) e

-- what follows from the value of an answer follows from the answer
pub ok_also : {A E : Type 0} (P Q : A → Type 0) (r : Result A E) → ((a : A) → P a → Q a) → IfOk r P → IfOk r Q
ok_also P Q (Ok a) f h = f a h
ok_also P Q (Err e) f h = tt

-- the item behind a front is the entry at the front's length
item_here : {A : Type 0} (xs : List A) (x : A) (rest : List A) → slice_get (xs ++ (x ∷ rest)) (length xs) ≡ Some x
item_here [] x rest = refl
item_here (y ∷ ys) x rest = item_here ys x rest

-- the next item of a list stands behind the items that came
pub item_next : {A : Type 0} (xs : List A) (x : A) (rest all : List A) (n : ℕ) → n ≡ length xs → xs ++ (x ∷ rest) ≡ all → slice_get all n ≡ Some x
item_next {A} xs x rest all n is e = subst (λ (p : List A × ℕ). slice_get p.0 p.1 ≡ Some x) (λ i. (e i, sym is i)) (item_here xs x rest)

-- what is known of each value that an option may have is known of the option
if_some : {A : Type 0} (o : Option A) (P : A → Type 0) → ((d : A) → o ≡ Some d → P d) → IfSome o P
if_some None P h = tt
if_some (Some d) P h = h d refl

-- the next entry is a result of its view
pub entry_next : {X C : Type 0} (meaning : C → View → Meaning) (about : About X C) (all xs : List (Option (Delivered X))) (o : Option (Delivered X)) (rest : List (Option (Delivered X))) (n : ℕ) → GivesResults meaning about all
    → n ≡ length xs → xs ++ (o ∷ rest) ≡ all → IfSome o (IsResultOf meaning about n)
entry_next meaning about all xs o rest n gives is e =
    if_some o (IsResultOf meaning about n) (λ d at. gives n d (item_next xs o rest all n is e ∙ ap (λ (o : Option _). Some o) at))

-- there are more views than entries that came
pub tile_below : {A B : Type 0} (views : List B) (xs : List A) (x : A) (rest all : List A) (n : ℕ) → n ≡ length xs → xs ++ (x ∷ rest) ≡ all → length all ≡ length views → n < length views
tile_below views xs x rest all n is e long =
    let same = ap length e in let split : length (xs ++ (x ∷ rest)) ≡ length xs + suc (length rest) = Rattle.std.proofs.Common.length-append xs (x ∷ rest) in omega arith

-- one entry more is taken
taken_here : {A : Type 0} (all : List A) (n : ℕ) (v : A) → get_elem? all n ≡ some v → take (suc n) all ≡ take n all ++ v ∷ []
taken_here [] n v e = absurd (some-ne-none v (sym e))
taken_here (x ∷ xs) zero v e = let is : x ≡ v = some-injective x v e in λ i. is i ∷ []
taken_here (x ∷ xs) (suc n) v e = ap (λ (l : List _). x ∷ l) (taken_here xs n v e)

module _ {X : Type 0} (meaning : View → Meaning) where
  -- one tile more is coded from its view
  pub tiles_more : (all : List View) (n : ℕ) (tile : Option (CodedTile X)) (made more : List (Option (CodedTile X))) → AllZip (IsCodedFrom meaning) (take n all) made
      → IsTileResult meaning all n tile → more ≡ made ++ tile ∷ [] → AllZip (IsCodedFrom meaning) (take (n + 1) all) more
  tiles_more all n tile made more old is pushed =
      let one : n + 1 ≡ suc n = omega arith in
      let taken : take (n + 1) all ≡ take n all ++ is.0 ∷ [] = ap (λ (k : ℕ). take k all) one ∙ taken_here all n is.0 is.1 in
      subst (λ (xs : List View). AllZip (IsCodedFrom meaning) xs more) (sym taken) (subst (AllZip (IsCodedFrom meaning) (take n all ++ is.0 ∷ [])) (sym pushed)
      (all_zipped_more (IsCodedFrom meaning) (take n all) made is.0 tile old is.2))

  -- the results of all tiles are the meanings
  pub tiles_mean : (all : List View) (made : List (Option (CodedTile X))) → AllZip (IsCodedFrom meaning) all made → map result_of made ≡ map meaning all
  tiles_mean [] [] h = refl
  tiles_mean [] (t ∷ ts) h = absurd h
  tiles_mean (v ∷ vs) [] h = absurd h
  tiles_mean (v ∷ vs) (t ∷ ts) h = λ i. h.0.0 i ∷ tiles_mean vs ts h.1 i

  -- the results of all tiles keep the shapes of their views
  pub tiles_keep : (all : List View) (made : List (Option (CodedTile X))) → AllZip (IsCodedFrom meaning) all made → AllZip KeepsShape all (map result_of made)
  tiles_keep [] [] h = tt
  tiles_keep [] (t ∷ ts) h = absurd h
  tiles_keep (v ∷ vs) [] h = absurd h
  tiles_keep (v ∷ vs) (t ∷ ts) h = (h.0.1, tiles_keep vs ts h.1)

-- a frame has at most 4096 tiles
pub few_views : (t : TilingInfo) (s : State) (blocks : List Block) (cols rows : ℕ) → IsTilingOf t s cols rows → length (views t s blocks) ≤ 4096
few_views t s blocks cols rows made =
    let few = tile_count-le t (tiling_facts t s cols rows made) in let long = length-views t s blocks in omega arith

-- a frame has at least one view
pub some_views : (t : TilingInfo) (s : State) (blocks : List Block) (cols rows : ℕ) → IsTilingOf t s cols rows → 0 < length (views t s blocks)
some_views t s blocks cols rows made =
    let facts = tiling_facts t s cols rows made in
    let wide = cols-pos t facts in
    let high : 0 < t.rows = subst (λ (n : ℕ). 0 < n) (sym facts.rows) (div_ceil-pos (superblock_rows t) t.tile_height_sb (div_ceil-pos t.frame_height (2 ^ t.sb_size_log2) facts.high.0 (pow_pos t.sb_size_log2)) (tile_high-pos t facts)) in
    subst (λ (n : ℕ). 0 < n) (sym (length-views t s blocks)) (mul-lt 0 0 t.cols t.rows wide high)
