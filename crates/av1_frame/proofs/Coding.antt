-- Steps of the loops over a frame's tiles.
use Rattle.std.proofs.Common.{◌≡◌, ℕ, ◌+◌, ◌-◌, ◌*◌, ◌<◌, ◌≤◌, inl, inr, List, [], ◌∷◌, ◌++◌, length, map, take, drop, get_or, Option, Some, None, refl, sym, ap, ◌∙◌, subst, arith}
use Rattle.std.specs.List.{AllZip, filter_map}
use Rattle.std.proofs.lemmas.Bool.{cases_lt}
use Rattle.std.proofs.lemmas.List.{drop_more, take_more, length-drop, map-append, append-nil}
use Rattle.std.proofs.lemmas.List.Elements.{filter_map-append}
use Rattle.std.proofs.lemmas.Slice.Zip.{all_zipped_more}
use Rattle.std.specs.Prelude.{option_map}
use Rattle.av1_tiling.specs.Views.{View}
use Rattle.av1_frame.specs.declared.coded_tile.CodedTile.{CodedTile}
use Rattle.av1_frame.specs.Coding.{Meaning, tile_bytes, tile_views}
use Rattle.av1_frame.specs.Results.{result_of}

-- the next of a list of which a first part was taken
pub next_of : {A : Type 0} (all rest : List A) (n : ℕ) (x : A) → drop n all ≡ x ∷ rest → (n < length all) × ((x ≡ get_or all n x) × (rest ≡ drop (n + 1) all))
next_of all rest n x e =
    let left = sym (length-drop n all) ∙ ap length e in
    let less : n < length all = omega arith in
    let split : x ∷ rest ≡ get_or all n x ∷ drop (n + 1) all = sym e ∙ drop_more all n x less in
    (less, (cc, cc))

-- one tile more is coded from its view
pub one_coded : {A B C : Type 0} (f : A → C) (result : B → C) (R : A → C → Type 0) (all rest : List A) (n : ℕ) (x : A) (y : B) (made more : List B) → drop n all ≡ x ∷ rest
    → map result made ≡ map f (take n all) → AllZip R (take n all) (map result made) → more ≡ made ++ y ∷ [] → result y ≡ f x → R x (result y)
    → (rest ≡ drop (n + 1) all) × ((map result more ≡ map f (take (n + 1) all)) × AllZip R (take (n + 1) all) (map result more))
one_coded f result R all rest n x y made more left same shapes pushed coded shape =
    let next = next_of all rest n x left in
    let taken : take (n + 1) all ≡ take n all ++ x ∷ [] = take_more all n x next.0 ∙ ap (λ z. take n all ++ z ∷ []) (sym next.1.0) in
    let results : map result more ≡ map result made ++ result y ∷ [] = ap (map result) pushed ∙ map-append result made (y ∷ []) in
    let meanings : map f (take (n + 1) all) ≡ map f (take n all) ++ f x ∷ [] = ap (map f) taken ∙ map-append f (take n all) (x ∷ []) in (
      next.1.1,
      (
        results ∙ ((λ i. same i ++ coded i ∷ []) ∙ sym meanings),
        subst (λ xs. AllZip R xs (map result more)) (sym taken) (subst (AllZip R (take n all ++ x ∷ [])) (sym results) (all_zipped_more R (take n all) (map result made) x (result y) shapes shape)),
      ),
    )

-- Bytes and views apart.

-- one result more adds its part
parts_more : {X A : Type 0} (part : List ℕ × View → A) (yielded : List (Option (CodedTile X))) (tile : Option (CodedTile X))
    → filter_map (option_map part) (map result_of (yielded ++ tile ∷ [])) ≡ filter_map (option_map part) (map result_of yielded) ++ filter_map (option_map part) (result_of tile ∷ [])
parts_more part yielded tile =
    ap (filter_map (option_map part)) (map-append result_of yielded (tile ∷ []))
    ∙ filter_map-append (option_map part) (map result_of yielded) (result_of tile ∷ [])

-- a refused tile adds no part
pub none_split : {X A : Type 0} (part : List ℕ × View → A) (yielded : List (Option (CodedTile X))) (tile : Option (CodedTile X)) (made : List A) → tile ≡ None
    → made ≡ filter_map (option_map part) (map result_of yielded) → made ≡ filter_map (option_map part) (map result_of (yielded ++ tile ∷ []))
none_split part yielded tile made e same =
    same ∙ (sym (append-nil (filter_map (option_map part) (map result_of yielded))) ∙ ((λ i. filter_map (option_map part) (map result_of yielded) ++ filter_map (option_map part) (result_of (sym e i) ∷ [])) ∙ sym (parts_more part yielded tile)))

-- one coded tile more adds its bytes and its view
pub one_split : {X A : Type 0} (part : List ℕ × View → A) (yielded : List (Option (CodedTile X))) (tile : Option (CodedTile X)) (one : CodedTile X) (made more : List A) → tile ≡ Some one
    → made ≡ filter_map (option_map part) (map result_of yielded) → more ≡ made ++ part (one.bytes.items, one.context) ∷ [] → more ≡ filter_map (option_map part) (map result_of (yielded ++ tile ∷ []))
one_split part yielded tile one made more e same pushed =
    pushed ∙ ((λ i. same i ++ filter_map (option_map part) (result_of (sym e i) ∷ [])) ∙ sym (parts_more part yielded tile))
