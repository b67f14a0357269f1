-- Lines that set restoration units of a tile: no filter, a Wiener filter or a self-guided one (AV1 specification,
-- section 5.11.58).
use Rattle.std.specs.Prelude.{ℕ, ℤ, ◌*◌, ◌/◌, ◌%◌, List, [], ◌∷◌, Bool, ◌==◌, ◌&&◌, nat_lt, if◌then◌else◌, Option, Some, None, codes}
use Rattle.av1_plane.specs.declared.three.Three.{Three}
use Rattle.av1_block.specs.declared.restoration_unit.RestorationFilter.{RestorationFilter}
use Rattle.av1_block.specs.declared.restoration_unit.RestorationFilter.TheVariants as filters
use Rattle.av1_block.specs.declared.restoration_unit.RestorationUnit.{RestorationUnit}
use Rattle.av1_block.specs.RestorationUnit.{no_unit}
use Rattle.av1_rec.specs.declared.text.extent.Extent.{Extent}
use Rattle.av1_rec.specs.declared.text.unit_line.UnitLine.{UnitLine}
use Rattle.av1_rec.specs.BlockTable.{first_values}
use Rattle.av1_rec.specs.Fields.{◌>>=◌, tag, number_in, field, delta}

-- a space, and a number below a limit
unfoldable pub unit_place : ℕ → List ℕ → Option (ℕ × List ℕ)
unit_place limit text = do
  n ← field 0 4294967295 text
  if nat_lt n.0 limit then Some n else None

-- three signed numbers, each behind a space
unfoldable pub three_taps : List ℕ → Option (List ℤ × List ℕ)
three_taps text = do
  a ← delta text
  b ← delta a.1
  c ← delta b.1
  Some (a.0 ∷ b.0 ∷ c.0 ∷ [], c.1)

-- ` wiener A B C D E F`: the coefficients down, then the coefficients across
unfoldable pub wiener_unit : List ℕ → Option (RestorationFilter × List ℕ)
wiener_unit text = do
  rest ← tag (codes " wiener") text
  vertical ← three_taps rest
  horizontal ← three_taps vertical.1
  Some (filters.Wiener (vertical.0 ∷ horizontal.0 ∷ []), horizontal.1)

-- ` sgrproj SET W0 W1`: a set of strengths, and the weights of both passes
unfoldable pub self_guided : List ℕ → Option (RestorationFilter × List ℕ)
self_guided text = do
  rest ← tag (codes " sgrproj") text
  set ← field 0 255 rest
  first ← delta set.1
  second ← delta first.1
  Some (filters.Sgrproj set.0 (first.0 ∷ second.0 ∷ []), second.1)

-- the word ` none`, a Wiener filter or a self-guided one
unfoldable pub unit_filter : List ℕ → Option (RestorationFilter × List ℕ)
unit_filter text = elim (tag (codes " none") text) [
  | Some rest ↦ Some (filters.None, rest)
  | None ↦ elim (wiener_unit text) [ Some x ↦ Some x | None ↦ self_guided text ]
]

-- the entry of plane p
abbrev pub of_plane : {A : Type 0} → ℕ → Three A → A
of_plane p three = if p == 0 then three.y else (if p == 1 then three.u else three.v)

-- `P X Y` and the filter of this unit of the tile, which has these numbers of units in each plane
unfoldable pub unit_line : Three Extent → List ℕ → Option (UnitLine × List ℕ)
unit_line units text = do
  p ← number_in 0 2 text
  x ← unit_place (of_plane p.0 units).width p.1
  y ← unit_place (of_plane p.0 units).height x.1
  f ← unit_filter y.1
  rest ← tag (codes "\n") f.1
  Some (record { plane = p.0; x = x.0; y = y.0; unit = record { filter = f.0 } }, rest)

-- whether a line sets the unit at column x of row y of a plane
abbrev pub sets : UnitLine → (p x y : ℕ) → Bool
sets line p x y = line.plane == p && (line.x == x && line.y == y)

-- the unit at column x of row y of a plane, where `before` stood: the last line that sets it decides
abbrev pub unit_after : RestorationUnit → List UnitLine → (p x y : ℕ) → RestorationUnit
unit_after before [] p x y = before
unit_after before (line ∷ lines) p x y = unit_after (if sets line p x y then line.unit else before) lines p x y

-- a tile's units of a plane, row by row; a unit that no line sets has no filter
unfoldable pub units_said : Extent → ℕ → List UnitLine → List RestorationUnit
units_said units p lines =
    first_values (λ k. unit_after no_unit lines p (k % units.width) (k / units.width)) (units.width * units.height)

-- a tile's units of all planes, as the lines set them
abbrev pub tile_units_said : Three Extent → List UnitLine → Three (List RestorationUnit)
tile_units_said units lines = record {
  y = units_said units.y 0 lines;
  u = units_said units.u 1 lines;
  v = units_said units.v 2 lines;
}
