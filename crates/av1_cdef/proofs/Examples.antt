-- Worked examples of the definitions.
use Rattle.std.proofs.Common.{◌≡◌, ℕ, ℤ, pos, negsuc, List, [], ◌∷◌, refl}
use Rattle.av1_cdef.specs.declared.settings.Settings.{Settings}
use Rattle.av1_cdef.specs.Picture.{CdefPicture, filtered_at}
use Rattle.av1_cdef.specs.Sums.{total_below, first_greatest}
use Rattle.av1_cdef.specs.Direction.{cost, direction, direction_variance}
use Rattle.av1_cdef.specs.Strength.{floor_log2_up_to, constrained, adjusted_strength}

-- a row of eight zeros before other samples
abbrev dark : List ℕ → List ℕ
dark rest = 0 ∷ 0 ∷ 0 ∷ 0 ∷ 0 ∷ 0 ∷ 0 ∷ 0 ∷ rest

-- a row of eight samples of 255 before other samples
abbrev light : List ℕ → List ℕ
light rest = 255 ∷ 255 ∷ 255 ∷ 255 ∷ 255 ∷ 255 ∷ 255 ∷ 255 ∷ rest

-- rows of 0 and of 255 in turn
abbrev stripes : List ℕ
stripes = dark (light (dark (light (dark (light (dark (light [])))))))

-- stripes point to the right
pub stripes_direction : direction stripes ≡ 2
unfolding total_below first_greatest cost
stripes_direction = refl

-- the variance of stripes
pub stripes_variance : direction_variance stripes ≡ 853453
unfolding total_below first_greatest cost
stripes_variance = refl

-- a difference of 10 pulls by 3
pub small_difference : constrained (pos 10) 4 5 ≡ pos 3
unfolding floor_log2_up_to
small_difference = refl

-- a difference of 40 pulls nothing
pub great_difference : constrained (pos 40) 4 5 ≡ pos 0
unfolding floor_log2_up_to
great_difference = refl

-- a difference of -10 pulls by -3
pub negative_difference : constrained (negsuc 9) 4 5 ≡ negsuc 2
unfolding floor_log2_up_to
negative_difference = refl

-- at threshold 0 nothing pulls
pub no_threshold : constrained (pos 10) 0 5 ≡ pos 0
unfolding floor_log2_up_to
no_threshold = refl

-- a strength of 4 becomes 1 at the variance 64
pub strength_adjusted : adjusted_strength 4 64 ≡ 1
unfolding floor_log2_up_to
strength_adjusted = refl

-- a flat block has no primary strength
pub strength_of_flat_block : adjusted_strength 4 0 ≡ 0
strength_of_flat_block = refl

-- A block of samples 100 but 102 at row 4, column 4, with the secondary strength 4 and damping 3.

-- a row of eight samples of 100 before other samples
abbrev even_row : List ℤ → List ℤ
even_row rest = pos 100 ∷ pos 100 ∷ pos 100 ∷ pos 100 ∷ pos 100 ∷ pos 100 ∷ pos 100 ∷ pos 100 ∷ rest

-- a row of 100 with a dot, and what follows
abbrev dotted_row : List ℤ → List ℤ
dotted_row rest = pos 100 ∷ pos 100 ∷ pos 100 ∷ pos 100 ∷ pos 102 ∷ pos 100 ∷ pos 100 ∷ pos 100 ∷ rest

-- a block of 100 with one bright sample
abbrev dotted : CdefPicture
dotted = record {
  samples = even_row (even_row (even_row (even_row (dotted_row (even_row (even_row (even_row [])))))));
  origin = 0;
  step = 8;
  width = 8;
  height = 8;
}

-- the settings of the example with the bright sample
abbrev gentle : Settings
gentle = record { direction = 0; primary = 0; secondary = 4; damping = 3; scale = 1 }

-- the bright sample becomes 100
pub dot_removed : filtered_at dotted gentle 0 0 4 4 ≡ pos 100
unfolding filtered_at floor_log2_up_to
dot_removed = refl

-- a sample beside the bright one stays
pub beside_dot : filtered_at dotted gentle 0 0 4 5 ≡ pos 100
unfolding filtered_at floor_log2_up_to
beside_dot = refl

-- a sample in a corner stays
pub corner_kept : filtered_at dotted gentle 0 0 0 0 ≡ pos 100
unfolding filtered_at floor_log2_up_to
corner_kept = refl
