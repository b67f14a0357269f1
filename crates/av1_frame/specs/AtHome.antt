-- What lies at home in the slot of a tile.
use Rattle.std.specs.Prelude.{◌≡◌, ℕ, List, Option, Some, None, MatchResult, slice_get, ◌==◌, if◌then◌else◌}
use mathlib.Core.Option.{some}
use lib.ListN.{get_elem?}
use Rattle.av1_tiling.specs.Views.{View, SameShape}
use Rattle.av1_frame.specs.Coding.{Meaning}
use Rattle.av1_frame.specs.Claims.{Has}
use Rattle.av1_frame.specs.declared.coder.CodeError.TheVariants.{Refused}
use Rattle.av1_frame.specs.declared.doing.About.{About}
use Rattle.av1_frame.specs.declared.delivered.Delivered.{Delivered}
use Rattle.av1_frame.specs.declared.delivered.Place.{Place}
use Rattle.av1_frame.specs.declared.delivered.Place.TheVariants.{Start, Done}

module _ {T : Type 0} where
  -- a result of the view v, whose meaning is m: the coder's want of memory, or what m is
  abbrev pub IsResult : Meaning → View → Delivered T → Type 0
  IsResult m v d =
      MatchResult d.coded (λ bytes. (m ≡ Some (bytes.items, d.view)) × SameShape v d.view)
      (λ e. e ≡ Refused → m ≡ None)

  module _ {C : Type 0} (meaning : C → View → Meaning) where
    -- a result of the tile n
    abbrev pub IsResultOf : About T C → ℕ → Delivered T → Type 0
    IsResultOf about n d =
        (v : View) × (get_elem? about.starts n ≡ some v) × IsResult (meaning about.coder v) v d

    -- each entry that is there is a result of its tile
    abbrev pub GivesResults : About T C → List (Option (Delivered T)) → Type 0
    GivesResults about entries =
        (n : ℕ) (d : Delivered T) → slice_get entries n ≡ Some (Some d) → IsResultOf about n d

    -- the starting view where the tile is free, its result where it is finished
    pub record AtHome (about : About T C) (n word : ℕ) (value : Place T) : Type 0 where
      pub start : word ≡ 0 → (v : View) × (value ≡ Start v) × (get_elem? about.starts n ≡ some v)
      pub done : word ≡ 3 → (d : Delivered T) × (value ≡ Done d) × IsResultOf about n d

  -- each claimed tile has a result among the entries
  abbrev pub GivesClaimed : List ℕ → List (Option (Delivered T)) → Type 0
  GivesClaimed claimed entries =
      (n : ℕ) → Has claimed n → (d : Delivered T) × (slice_get entries n ≡ Some (Some d))

  -- what a closed table gives for a slot
  abbrev pub delivered_of : ℕ → Place T → Option (Delivered T)
  delivered_of word (Done d) = if word == 3 then Some d else None
  delivered_of word _ = None

  -- the entries gathered from the words and the slots are what a closed table gives for each slot
  abbrev pub Gathered : List ℕ → List (Place T) → List (Option (Delivered T)) → Type 0
  Gathered words slots items =
      (n : ℕ) (o : Option (Delivered T)) → get_elem? items n ≡ some o
      → (w : ℕ) × (p : Place T) × (get_elem? words n ≡ some w) × (get_elem? slots n ≡ some p)
      × (o ≡ delivered_of w p)
