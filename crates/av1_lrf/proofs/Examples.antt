-- Worked rows, computed by the definitions.
use Rattle.std.proofs.Common.{◌≡◌, ℕ, ℤ, pos, neg_ℤ, ◌+◌, true, false, List, [], ◌∷◌, ◌++◌, refl}
use Rattle.std.specs.Prelude.{zero, suc}
use Rattle.av1_block.specs.declared.restoration_unit.RestorationFilter.TheVariants.{Wiener}
use Rattle.av1_lrf.specs.Rows.{Picture, stripe, stripe_count, stripe_source, in_stripe, Scene}
use Rattle.av1_lrf.specs.Wiener.{wiener_across, down}
use Rattle.av1_lrf.specs.Guided.{Table, squared, pass, guided, own_weight, mean_part}
use Rattle.av1_lrf.specs.Integral.{corner_sum}
use Rattle.av1_tiling.specs.Restoration.{Units}
use Rattle.av1_lrf.specs.Restore.{PlaneSettings, restored}

-- A plane of 100s stays: the pass of radius 2 gives 1602 on even and odd rows, that of radius 1 gives 1600.
abbrev pub all_100 : Table
all_100 x y = 100

-- a pass of radius 2 on an even row of a flat picture
pub flat_even : pass 8 0 2 false all_100 100 3 3 ≡ 1602
unfolding pass own_weight mean_part
flat_even = refl

-- a pass of radius 2 on an odd row of a flat picture
pub flat_odd : pass 8 0 2 true all_100 100 3 3 ≡ 1602
unfolding pass own_weight mean_part
flat_odd = refl

-- a pass of radius 1 on a flat picture
pub flat_one : pass 8 0 1 false all_100 100 3 3 ≡ 1600
unfolding pass own_weight mean_part
flat_one = refl

-- a flat picture stays when guided with the usual weights
pub flat_stays : guided 8 0 (neg_ℤ (pos 32) ∷ pos 31 ∷ []) false all_100 100 3 3 ≡ pos 100
unfolding guided pass own_weight mean_part
flat_stays = refl

-- A luma plane of 72 rows has two stripes. Row 53 of the picture, which is above the second one, is read
-- as row 54 of the deblocked picture, and row 72, which is below the picture, as row 71 of the enhanced
-- one. The deblocked picture has the number of its row, the enhanced one 1000 more.
abbrev pub numbered : ℕ → ℕ → List ℤ
numbered from zero = []
numbered from (suc n) = pos from ∷ numbered (suc from) n

-- a picture of one column that counts its rows
abbrev pub column_of : ℕ → Picture
column_of from = record { samples = numbered from 72; origin = 0; step = 1; width = 1; height = 72 }

-- the lower stripe of both pictures
abbrev pub two_stripes : Scene
two_stripes = record { deblocked = column_of 0; enhanced = column_of 1000; stripe = stripe 0 1 }

-- a frame of 72 rows has two stripes
pub stripes_of_72 : stripe_count 72 ≡ 2
stripes_of_72 = refl

-- two rows of the deblocked picture lie above a stripe
pub above_stripe : stripe_source two_stripes 3 (53 + 3) ≡ pos 54
unfolding in_stripe
above_stripe = refl

-- below the picture its last row is read again
pub below_picture : stripe_source two_stripes 3 (72 + 3) ≡ pos 1071
unfolding in_stripe
below_picture = refl

-- A step of 8 in each row, filtered across only.
abbrev pub step_row : List ℤ
step_row = pos 100 ∷ pos 100 ∷ pos 100 ∷ pos 108 ∷ pos 108 ∷ pos 108 ∷ pos 108 ∷ pos 108 ∷ []

-- a picture of eight rows with a step
abbrev pub step_picture : Picture
step_picture = record {
  samples = step_row ++ step_row ++ step_row ++ step_row ++ step_row ++ step_row ++ step_row ++ step_row;
  origin = 0;
  step = 8;
  width = 8;
  height = 8;
}

-- coefficients that leave the sums down as they are
abbrev pub across_alone : List (List ℤ)
across_alone = (pos 0 ∷ pos 0 ∷ pos 0 ∷ []) ∷ (pos 3 ∷ neg_ℤ (pos 7) ∷ pos 15 ∷ []) ∷ []

-- a table of one unit with the coefficients
abbrev pub one_unit : Units
one_unit = record {
  cfg = record { lrf_type = 1; unit_size = 64; sb_h_shift = 0; sb_v_shift = 0; sb_cols = 1; sb_rows = 1; stripe_height = 64; cols = 1; rows = 1 };
  cols = 1;
  rows = 1;
  entries = record { filter = Wiener across_alone } ∷ [];
}

-- a luma plane of 8 bits
abbrev pub one_plane : PlaneSettings
one_plane = record { units = one_unit; cdef = false; bit_depth = 8; ydec = 0 }

-- a sample of the third row
abbrev pub restored_step : ℕ → ℤ
restored_step x = restored one_plane step_picture step_picture x 2

-- the row is 100, 100, 101, 107 and 108 from there on
pub step_sharpened : restored_step 0 ∷ restored_step 1 ∷ restored_step 2 ∷ restored_step 3 ∷ restored_step 4 ∷ restored_step 5 ∷ restored_step 6 ∷ restored_step 7 ∷ [] ≡ pos 100 ∷ pos 100 ∷ pos 101 ∷ pos 107 ∷ pos 108 ∷ pos 108 ∷ pos 108 ∷ pos 108 ∷ []
unfolding restored down wiener_across in_stripe
step_sharpened = refl

-- One sample of 5, spread over the margin: the last cell of a 1 by 1 picture.
abbrev pub all_5 : Table
all_5 x y = 5

-- the sum over a corner of 49 samples of 5
pub corner_of_5 : corner_sum all_5 7 7 ≡ 245
unfolding corner_sum
corner_of_5 = refl

-- the sum of the squares over a corner of 25 samples
pub corner_of_25 : corner_sum (squared all_5) 7 7 ≡ 1225
unfolding corner_sum
corner_of_25 = refl
