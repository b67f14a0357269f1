-- Whether a bitstream can describe a restoration unit (AV1 specification, section 5.11.58).
use Rattle.std.specs.Prelude.{ℤ, pos, neg_ℤ, List, Bool, true, ◌&&◌, nat_lt, int_le}
use Rattle.std.specs.List.{slice_index_or, list_all}
use Rattle.av1_plane.specs.declared.three.Three.{Three}
use Rattle.av1_block.specs.declared.restoration_unit.RestorationFilter.{RestorationFilter}
use Rattle.av1_block.specs.declared.restoration_unit.RestorationFilter.TheVariants.{None, Wiener, Sgrproj}
use Rattle.av1_block.specs.declared.restoration_unit.RestorationUnit.{RestorationUnit}
use Rattle.av1_tiling.specs.Restoration.{down_coeffs, across_coeffs}
use Rattle.av1_tiling.specs.Views.{Part}

-- whether a number is from low to high
abbrev pub is_between : (low high n : ℤ) → Bool
is_between low high n = int_le low n && int_le n high

-- whether these are three coefficients of a Wiener filter
abbrev pub are_coeffs : List ℤ → Bool
are_coeffs cs =
    is_between (neg_ℤ (pos 5)) (pos 10) (slice_index_or cs 0 (pos 0))
    && (is_between (neg_ℤ (pos 23)) (pos 8) (slice_index_or cs 1 (pos 0))
    && is_between (neg_ℤ (pos 17)) (pos 46) (slice_index_or cs 2 (pos 0)))

-- whether these are the weights of both passes of the self-guided filter
abbrev pub are_weights : List ℤ → Bool
are_weights xqd =
    is_between (neg_ℤ (pos 96)) (pos 31) (slice_index_or xqd 0 (pos 0))
    && is_between (neg_ℤ (pos 32)) (pos 95) (slice_index_or xqd 1 (pos 0))

-- whether a bitstream can describe a filter
abbrev pub is_filter : RestorationFilter → Bool
is_filter None = true
is_filter (Wiener coeffs) = are_coeffs (down_coeffs coeffs) && are_coeffs (across_coeffs coeffs)
is_filter (Sgrproj set xqd) = nat_lt set 16 && are_weights xqd

-- whether a bitstream can describe a unit
abbrev pub is_unit : RestorationUnit → Bool
is_unit unit = is_filter unit.filter

-- whether a bitstream can describe all units of a tile, in each of its planes
abbrev pub are_units : Three (Part RestorationUnit) → Bool
are_units parts =
    list_all is_unit parts.y.entries && (list_all is_unit parts.u.entries && list_all is_unit parts.v.entries)
