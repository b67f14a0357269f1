-- The results of a frame's tiles, one by one.
use Rattle.std.specs.Prelude.{◌≡◌, ◌⊎◌, ℕ, ◌<◌, List, Option, Some, None}
use mathlib.Core.Option.{some}
use lib.ListN.{get_elem?}
use Rattle.av1_tiling.specs.Views.{View}
use Rattle.av1_frame.specs.declared.coded_tile.CodedTile.{CodedTile}
use Rattle.av1_frame.specs.declared.delivered.Delivered.{Delivered}
use Rattle.av1_frame.specs.AtHome.{IsResult}
use Rattle.av1_frame.specs.Claims.{Has}
use Rattle.av1_frame.specs.Coding.{Meaning, KeepsShape}
use Rattle.av1_frame.specs.Results.{result_of}

-- each of `count` tiles is claimed, or was found taken
abbrev pub AreAllHanded : ℕ → (claimed missed : List ℕ) → Type 0
AreAllHanded count claimed missed = (n : ℕ) → n < count → Has claimed n ⊎ Has missed n

-- what a coder with this meaning made of a view
abbrev pub IsCodedFrom : {X : Type 0} → (View → Meaning) → View → Option (CodedTile X) → Type 0
IsCodedFrom meaning v tile = (result_of tile ≡ meaning v) × KeepsShape v (result_of tile)

-- what a coder with this meaning made of view n
abbrev pub IsTileResult : {X : Type 0} → (View → Meaning) → List View → ℕ → Option (CodedTile X) → Type 0
IsTileResult meaning views n tile = (v : View) × (get_elem? views n ≡ some v) × IsCodedFrom meaning v tile

-- a tile has the meaning that its result has, of every view that it is a result of
abbrev pub SaysResult : {X : Type 0} → Delivered X → Option (CodedTile X) → Type 0
SaysResult done tile =
    (m : Meaning) (v : View) → IsResult m v done → (result_of tile ≡ m) × KeepsShape v m
