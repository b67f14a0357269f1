-- The text of a report: the deblocking levels, the numbers of the tile group, its bytes, and the rows of each plane.
use Rattle.std.specs.Prelude.{ℕ, ◌+◌, ◌/◌, ◌%◌, ℤ, pos, negsuc, List, [], ◌∷◌, ◌++◌, nat_lt, Bool, true, false, if◌then◌else◌, codes, decimal}
use Rattle.std.specs.List.{flat_map}
use Rattle.av1_plane.specs.declared.region.PlaneRegion.{PlaneRegion}
use Rattle.av1_plane.specs.Layout.{rows}
use Rattle.av1_plane.specs.Reading.{step_seen, area_seen, numbers_seen}

-- a hexadecimal digit, in lower case
abbrev pub digit : ℕ → ℕ
digit d = if nat_lt d 10 then d + 48 else d + 87

-- the two hexadecimal digits of a byte
abbrev pub byte_digits : ℕ → List ℕ
byte_digits n = digit (n / 16) ∷ digit (n % 16) ∷ []

-- the hexadecimal digits of a sample: four where it is wide, else two
abbrev pub sample_digits : Bool → ℕ → List ℕ
sample_digits true n = byte_digits (n / 256) ++ byte_digits (n % 256)
sample_digits false n = byte_digits (n % 256)

-- a sample's number, which isn't negative
abbrev pub natural : ℤ → ℕ
natural (pos n) = n
natural (negsuc n) = 0

-- the line of a row of samples
unfoldable pub row_line : Bool → List ℤ → List ℕ
row_line wide row = flat_map (λ v. sample_digits wide (natural v)) row ++ codes "\n"

-- `plane P` and the lines of the plane's rows
unfoldable pub plane_text : Bool → ℕ → List (List ℤ) → List ℕ
plane_text wide p rows = codes "plane " ++ decimal p ++ codes "\n" ++ flat_map (row_line wide) rows

-- the lines of the planes from number p on
unfoldable pub planes_text : Bool → ℕ → List (List (List ℤ)) → List ℕ
planes_text wide p [] = []
planes_text wide p (rows ∷ planes) = plane_text wide p rows ++ planes_text wide (p + 1) planes

-- ` N`: a space and a number in decimal
abbrev pub spaced : ℕ → List ℕ
spaced n = codes " " ++ decimal n

-- what is reported of a coded frame
pub record Reported : Type 0 where
  pub levels : List ℕ
  pub size_bytes : ℕ
  pub context_tile : ℕ
  pub group : List ℕ
  pub wide : Bool
  pub planes : List (List (List ℤ))

-- the lines of a report before its planes
unfoldable pub head : (levels : List ℕ) (size_bytes context_tile : ℕ) (group : List ℕ) → List ℕ
head levels size_bytes context_tile group =
    codes "levels" ++ flat_map spaced levels ++ codes "\nsize_bytes" ++ spaced size_bytes ++ codes "\ncontext_tile" ++ spaced context_tile ++ codes "\ngroup " ++ flat_map byte_digits group ++ codes "\n"

-- the text of a report
unfoldable pub report : Reported → List ℕ
report r = head r.levels r.size_bytes r.context_tile r.group ++ planes_text r.wide 0 r.planes ++ codes "end\n"

-- the rows of numbers in a region
abbrev pub region_rows : {X : Type 0} → (X → ℤ) → PlaneRegion X → List (List ℤ)
region_rows number r = rows (step_seen r) (area_seen r).width (area_seen r).height (numbers_seen number r)
