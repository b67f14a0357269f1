-- The text of a summary: the deblocking levels, the numbers of the tile group, and the sum of each plane's samples.
use Rattle.std.specs.Prelude.{ℕ, ◌+◌, ◌≤◌, ℤ, List, [], ◌∷◌, ◌++◌, length, codes}
use Rattle.std.specs.List.{flat_map}
use Rattle.av1_plane.specs.declared.region.PlaneRegion.{PlaneRegion}
use Rattle.av1_plane.specs.Reading.{area_seen}
use Rattle.av1_rec.specs.Report.{Reported, natural, spaced}

-- the sum of a row's samples
abbrev pub row_sum : List ℤ → ℕ
row_sum [] = 0
row_sum (v ∷ row) = natural v + row_sum row

-- the sum of the samples of all rows
abbrev pub rows_sum : List (List ℤ) → ℕ
rows_sum [] = 0
rows_sum (row ∷ rows) = row_sum row + rows_sum rows

-- `sum P S`: the number of a plane, and the sum of its samples
unfoldable pub sum_line : ℕ → List (List ℤ) → List ℕ
sum_line p rows = codes "sum" ++ spaced p ++ spaced (rows_sum rows) ++ codes "\n"

-- the sums of the planes from number p on, one on each line
unfoldable pub sum_lines : ℕ → List (List (List ℤ)) → List ℕ
sum_lines p [] = []
sum_lines p (rows ∷ planes) = sum_line p rows ++ sum_lines (p + 1) planes

-- the lines of a summary before its sums
unfoldable pub summary_head : (levels : List ℕ) (size_bytes context_tile : ℕ) (group : List ℕ) → List ℕ
summary_head levels size_bytes context_tile group =
    codes "levels" ++ flat_map spaced levels ++ codes "\nsize_bytes" ++ spaced size_bytes ++ codes "\ncontext_tile" ++ spaced context_tile ++ codes "\ngroup_len" ++ spaced (length group) ++ codes "\n"

-- the text of a summary
unfoldable pub summary : Reported → List ℕ
summary r = summary_head r.levels r.size_bytes r.context_tile r.group ++ sum_lines 0 r.planes ++ codes "end\n"

-- a region of at most 65536 samples each way
pub record IsSmall {X : Type 0} (r : PlaneRegion X) : Type 0 where
  pub columns : (area_seen r).width ≤ 65536
  pub rows : (area_seen r).height ≤ 65536
