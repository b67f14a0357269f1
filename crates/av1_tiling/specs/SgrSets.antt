-- The sets of strengths that an encoder tries for the self-guided filter.
use Rattle.std.specs.Prelude.{ℕ, List, [], ◌∷◌}
use Rattle.av1_tiling.specs.declared.restoration.SGRComplexityLevel.{SGRComplexityLevel}
use Rattle.av1_tiling.specs.declared.restoration.SGRComplexityLevel.TheVariants.{Full, Reduced}

-- the sets that a level of effort tries: all sets, or every other one
abbrev pub sgr_sets : SGRComplexityLevel → List ℕ
sgr_sets Full = 0 ∷ 1 ∷ 2 ∷ 3 ∷ 4 ∷ 5 ∷ 6 ∷ 7 ∷ 8 ∷ 9 ∷ 10 ∷ 11 ∷ 12 ∷ 13 ∷ 14 ∷ 15 ∷ []
sgr_sets Reduced = 1 ∷ 3 ∷ 5 ∷ 7 ∷ 9 ∷ 11 ∷ 13 ∷ 15 ∷ []
