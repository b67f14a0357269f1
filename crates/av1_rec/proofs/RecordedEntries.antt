-- The entry of a tile, one entry after another.
use Rattle.std.proofs.Common.{◌≡◌, ℕ, ◌+◌, List, [], ◌∷◌, map, Some, None, true, false, length, refl, arith}
use Rattle.av1_tiling.specs.declared.tiling_info.TilingInfo.{TilingInfo}
use Rattle.av1_rec.specs.Recorded.{begins_at, recorded_entry}

module _ {E : Type 0} (t : TilingInfo) (superblock : ℕ × ℕ) (n : ℕ) where
  -- No results have no entry for a superblock.
  pub entry_none : recorded_entry {E = E} t superblock n [] ≡ None
  unfolding recorded_entry
  entry_none = refl

  -- A result whose tile begins at the superblock is its entry.
  pub entry_here : (e : E) (es : List E) → begins_at t superblock n ≡ true → recorded_entry t superblock n (e ∷ es) ≡ Some e
  unfolding recorded_entry
  entry_here e es h = rw h refl

  -- A result whose tile begins elsewhere is passed over.
  pub entry_later : (e : E) (es : List E) → begins_at t superblock n ≡ false → recorded_entry t superblock n (e ∷ es) ≡ recorded_entry t superblock (n + 1) es
  unfolding recorded_entry
  entry_later e es h = rw h refl

-- An empty list of results has no entry for a superblock.
pub entry_end : {K E : Type 0} (f : K → E) (t : TilingInfo) (superblock : ℕ × ℕ) (n : ℕ) (es : List K) → length es ≡ 0 → recorded_entry t superblock n (map f es) ≡ None
entry_end f t superblock n [] h = entry_none t superblock n
entry_end f t superblock n (e ∷ es) h = absurd (omega (arith, h))

pub ruleset entries = (entry_end, entry_here, entry_later)
