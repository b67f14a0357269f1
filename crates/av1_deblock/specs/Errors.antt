-- How far a plane is from its source where each of its edges is filtered alone, all at one level.
use Rattle.std.specs.Prelude.{ℕ, zero, suc, ℤ, pos, ◌+◌, ◌-◌, ◌*◌, ◌/◌, ◌<◌, ◌≤◌, ◌≡◌, Bool, nat_le, ◌==◌, if◌then◌else◌, List, length, sum_by, slice_set, ◌+ℤ◌, ◌-ℤ◌, ◌≤ℤ◌}
use Rattle.std.specs.List.{slice_index_or}
use Rattle.av1_deblock.specs.declared.edge.Edge.{Edge}
use Rattle.av1_deblock.specs.declared.profile.Profile.{Profile}
use Rattle.av1_deblock.specs.Line.{sample, distance, line, line_at, sum_below}
use Rattle.av1_deblock.specs.Columns.{column}
use Rattle.av1_plane.specs.declared.region.PlaneRegion.{PlaneRegion}
use Rattle.av1_plane.specs.Reading.{step_seen, numbers_seen}
use Rattle.av1_deblock.specs.Levels.{exactly}
use Rattle.av1_deblock.specs.Edges.{BlockTable}
use Rattle.av1_deblock.specs.Passes.{FramePlane, plane_edges, gathered, is_empty}

-- how many samples on each side of an edge the filter of a line of this size may change
abbrev pub reach : ℕ → ℕ
reach size = if nat_le size 6 then 2 else if size == 8 then 3 else 6

-- the squared distance of two lists at place i
abbrev pub square_at : List ℤ → List ℤ → ℕ → ℕ
square_at xs ys i = distance (sample xs i) (sample ys i) * distance (sample xs i) (sample ys i)

-- the sum of the squared distances of two lists at the n places from `from` on
unfoldable pub squares : List ℤ → List ℤ → ℕ → ℕ → ℕ
squares xs ys from zero = 0
squares xs ys from (suc n) = squares xs ys from n + square_at xs ys (from + n)

-- the sum of the squared distances of two lines at the places that a filter may change
abbrev pub line_distance : ℕ → List ℤ → List ℤ → ℕ
line_distance size xs ys = squares xs ys (size / 2 - reach size) (2 * reach size)

-- A coded plane and its source, of one bit depth: lists of numbers from their first sample on, with rows a
-- step apart.
pub record Compared : Type 0 where
  pub depth : ℕ
  pub coded : List ℤ
  pub coded_step : ℕ
  pub source : List ℤ
  pub source_step : ℕ

-- the numbers that a coded region and its source show, to be compared
abbrev pub compared : {X : Type 0} → ℕ → (X → ℤ) → PlaneRegion X → PlaneRegion X → Compared
compared bd number rec_region src_region = record {
  depth = bd;
  coded = numbers_seen number rec_region;
  coded_step = step_seen rec_region;
  source = numbers_seen number src_region;
  source_step = step_seen src_region;
}

-- line k of an edge of the coded plane, filtered alone, against the source
unfoldable pub line_error : Compared → Edge → ℕ → ℕ
line_error c e k =
    line_distance e.size
    (line c.depth e.size e.level (gathered 0 c.coded_step c.coded e k e.size))
    (gathered 0 c.source_step c.source e k e.size)

-- the errors of an edge's four lines, added
unfoldable pub edge_error : Compared → Edge → ℕ
edge_error c e = line_error c e 0 + line_error c e 1 + line_error c e 2 + line_error c e 3

-- the errors of edges, each filtered alone, added
unfoldable pub edges_error : Compared → List Edge → ℕ
edges_error c es = sum_by (edge_error c) es

-- an edge with another level
abbrev pub at_level : Edge → ℕ → Edge
at_level e level = record e { level = level }

-- the error of all edges of one direction between the blocks of a plane, each at exactly this level; that of
-- an empty plane is 0
abbrev pub plane_error : FramePlane → BlockTable → Compared → Bool → ℕ → ℕ
plane_error p t c vertical level =
    if is_empty p.cfg then 0
    else edges_error c (plane_edges p (exactly level) t vertical)

-- the lowest of the numbers below n at which f is least
pub record IsLowestLeast (f : ℕ → ℕ) (n best : ℕ) : Type 0 where
  pub inside : best < n
  pub least : (m : ℕ) → m < n → f best ≤ f m
  pub lowest : (m : ℕ) → m < best → f best < f m

-- The error of a line by its level.

-- `unfiltered` below level `from`, then `high`, and from level `lost` on `low`
abbrev pub by_level : ℕ → ℕ → ℕ → ℕ → ℕ → ℕ → ℕ
by_level from lost unfiltered high low level =
    if nat_le from level then (if nat_le lost level then low else high) else unfiltered

-- the error of a line by its profile
abbrev pub profile_error : Profile → ℕ → ℕ
profile_error p level = by_level p.from p.lost p.unfiltered p.high p.low level

-- a profile's levels are at most 64, in order, its errors at most 2^28
pub record HasLimits (p : Profile) : Type 0 where
  pub from : p.from ≤ 64
  pub order : p.from ≤ p.lost
  pub lost : p.lost ≤ 64
  pub unfiltered : p.unfiltered ≤ 268435456
  pub high : p.high ≤ 268435456
  pub low : p.low ≤ 268435456

-- the error of the line xs against ys at each level
pub record IsProfile (s size : ℕ) (xs ys : List ℤ) (p : Profile) : Type 0 where
  pub each : (level : ℕ) → level < 64 → profile_error p level ≡ line_distance size (line_at s size level xs) ys
  pub limits : HasLimits p

-- The profiles of four lines side by side: each number of line k is an entry k of four.

-- number i of a list
abbrev pub mark : List ℕ → ℕ → ℕ
mark marks i = slice_index_or marks i 0

-- the profile of line k, out of the marks of four lines
abbrev pub profile_of : List ℕ → ℕ → Profile
profile_of marks k = record {
  unfiltered = mark marks k;
  from = mark marks (4 + k);
  high = mark marks (8 + k);
  lost = mark marks (12 + k);
  low = mark marks (16 + k);
}

-- the marks are the profiles of the first n lines of the cells
pub record HasProfiles (s size n : ℕ) (cells source : List ℤ) (marks : List ℕ) : Type 0 where
  pub long : length marks ≡ 20
  pub each : (k : ℕ) → k < n → IsProfile s size (column cells k size) (column source k size) (profile_of marks k)

-- the errors at a level that the profiles of four lines say, added
abbrev pub marks_error : List ℕ → ℕ → ℕ
marks_error marks level =
    profile_error (profile_of marks 0) level + profile_error (profile_of marks 1) level
    + profile_error (profile_of marks 2) level + profile_error (profile_of marks 3) level

-- the error of line k
abbrev pub column_error : ℕ → ℕ → List ℤ → List ℤ → ℕ → ℕ → ℕ
column_error bd size cells source level k =
    line_distance size (line bd size level (column cells k size)) (column source k size)

-- the errors of all four lines of the cells at a level, added
unfoldable pub cells_error : ℕ → ℕ → List ℤ → List ℤ → ℕ → ℕ
cells_error bd size cells source level =
    column_error bd size cells source level 0 + column_error bd size cells source level 1
    + column_error bd size cells source level 2 + column_error bd size cells source level 3

-- Tallies: entries whose sums from 0 to a level are a function's value there.

-- the sum of the entries 0 to a level
abbrev pub running : List ℤ → ℕ → ℤ
running entries level = sum_below (suc level) (sample entries)

-- 65 entries whose sums up to each level are f of the level
pub record IsTally (f : ℕ → ℕ) (entries : List ℤ) : Type 0 where
  pub long : length entries ≡ 65
  pub sums : (level : ℕ) → level < 64 → running entries level ≡ pos (f level)
  pub small : (level : ℕ) → level < 64 → f level ≤ 1152921504606846976

-- the entries with v added to one of them
abbrev pub raised : List ℤ → ℕ → ℤ → List ℤ
raised entries at v = slice_set entries at (sample entries at +ℤ v)

-- the entries with the jumps of a profile's error added at its two levels
abbrev pub jumped : List ℤ → Profile → List ℤ
jumped entries p = raised (raised entries p.from (pos p.high -ℤ pos p.unfiltered)) p.lost (pos p.low -ℤ pos p.high)

-- the errors of four lines that aren't filtered, added
abbrev pub unfiltered_of : List ℕ → ℕ
unfiltered_of marks = mark marks 0 + mark marks 1 + mark marks 2 + mark marks 3

-- entries from -n to n
pub record IsBoundedBy (n : ℕ) (entries : List ℤ) : Type 0 where
  pub low : (i : ℕ) → (pos 0 -ℤ pos n) ≤ℤ sample entries i
  pub high : (i : ℕ) → sample entries i ≤ℤ pos n

-- f, which is at most n, was added to the sums of `old`
pub record HasAdded (n : ℕ) (f : ℕ → ℕ) (old new : List ℤ) : Type 0 where
  pub long : length new ≡ length old
  pub sums : (level : ℕ) → level < 64 → running new level ≡ running old level +ℤ pos (f level)
  pub small : (level : ℕ) → level < 64 → f level ≤ n
  pub near : (m : ℕ) → IsBoundedBy m old → IsBoundedBy (m + n) new
