-- The tile grid of a frame (AV1 specification, section 5.9.15), for superblocks of side 2 ^ s, s being 6
-- or 7. The limit on the rate of samples of a tile is that of the specification's Annex A.
use Rattle.std.specs.Prelude.{ℕ, Bool, true, false, Option, Some, None, ◌≡◌, ◌-◌, ◌*◌, ◌/◌, ◌^◌, ◌==◌, ◌&&◌, ◌||◌, nat_le, nat_lt, min, max, if◌then◌else◌}
use Rattle.std.specs.Int.{div_ceil}
use Rattle.av1_tiling.specs.Least.{least, tile_log2}
use Rattle.av1_tiling.specs.declared.tiling_info.TilingInfo.{TilingInfo}

-- the logarithm of a superblock's side: whether it has 128 luma samples or 64
abbrev pub superblock_log2 : Bool → ℕ
superblock_log2 true = 7
superblock_log2 false = 6

-- frames are coded with superblocks of 64 samples so far
abbrev pub IsBuiltSide : ℕ → Type 0
IsBuiltSide log2 = log2 ≡ 6

-- n rounded up to a multiple of d
abbrev pub round_up : ℕ → ℕ → ℕ
round_up n d = div_ceil n d * d

-- v, but at least low and at most high
abbrev pub clamp : ℕ → ℕ → ℕ → ℕ
clamp v low high = min (max v low) high

-- the logarithm of the fewest columns: a tile is at most 4096 samples wide
abbrev pub min_cols_log2 : ℕ → ℕ → ℕ
min_cols_log2 s sb_cols = tile_log2 (4096 / 2 ^ s) sb_cols

-- the logarithm of the most columns or rows: at most 64, each of a superblock or more
abbrev pub max_count_log2 : ℕ → ℕ
max_count_log2 sb_count = tile_log2 1 (min sb_count 64)

-- the logarithm of the fewest tiles by size: a tile has at most 4096 * 2304 samples
abbrev pub min_tiles_log2 : ℕ → ℕ → ℕ → ℕ
min_tiles_log2 s sb_cols sb_rows =
    max (min_cols_log2 s sb_cols) (tile_log2 (4096 * 2304 / 2 ^ (2 * s)) (sb_cols * sb_rows))

-- the logarithm of the fewest tiles by rate: at num / den frames of this many samples a second,
-- a tile has at most 588251136 samples a second
unfoldable pub rate_log2 : ℕ → ℕ → ℕ → ℕ
rate_log2 samples num den = least (λ k. nat_le (samples * num) (2 ^ k * (588251136 * den))) 64

-- the width of a tile in superblocks, in 2 ^ log2 columns where that is whole; it is even at 4:2:2
abbrev pub width_of : ℕ → ℕ → Bool → ℕ
width_of sb_cols log2 is_422 = let width = div_ceil sb_cols (2 ^ log2) in if is_422 then round_up width 2 else width

-- the width for the wanted logarithm of columns, kept to the limits
unfoldable pub tile_width : ℕ → ℕ → ℕ → Bool → ℕ
tile_width s sb_cols target is_422 =
    width_of sb_cols (clamp target (min_cols_log2 s sb_cols) (max_count_log2 sb_cols)) is_422

-- whether a frame may have this side: from 1 to 65536 samples
abbrev pub is_side : ℕ → Bool
is_side side = nat_lt 0 side && nat_le side 65536

-- whether a frame has a grid at some rate, by its superblocks, its sides and the rate's denominator
abbrev pub is_frame : ℕ → ℕ → ℕ → ℕ → Bool
is_frame s width height den = (s == 6 || s == 7) && (is_side width && (is_side height && nat_lt 0 den))

-- the grid of a frame of whole blocks of 8 samples, for at least these numbers of tiles by size and rate
abbrev pub grid_within : (s width height min_tiles rate_tiles target_cols target_rows : ℕ) → Bool → Option TilingInfo
grid_within s width height min_tiles rate_tiles target_cols target_rows is_422 =
    let sb_cols = div_ceil width (2 ^ s) in
    let sb_rows = div_ceil height (2 ^ s) in
    let tile_width_sb = tile_width s sb_cols target_cols is_422 in
    let cols = div_ceil sb_cols tile_width_sb in
    let cols_log2 = tile_log2 1 cols in
    let min_rows = min_tiles - cols_log2 in
    let rate_rows = max min_tiles rate_tiles - cols_log2 in
    let max_rows = max_count_log2 sb_rows in
    let rows_log2 = clamp (max target_rows min_rows) rate_rows max_rows in
    let tile_height_sb = div_ceil sb_rows (2 ^ rows_log2) in
    if nat_lt max_rows rate_rows then None else Some (record {
      frame_width = width;
      frame_height = height;
      tile_width_sb = tile_width_sb;
      tile_height_sb = tile_height_sb;
      cols = cols;
      rows = div_ceil sb_rows tile_height_sb;
      tile_cols_log2 = cols_log2;
      tile_rows_log2 = rows_log2;
      min_tile_cols_log2 = min_cols_log2 s sb_cols;
      max_tile_cols_log2 = max_count_log2 sb_cols;
      min_tile_rows_log2 = min_rows;
      max_tile_rows_log2 = max_rows;
      sb_size_log2 = s;
      min_tiles_log2 = min_tiles;
    })

-- the grid of a frame of these sides at num / den frames a second, for the wanted logarithms of columns
-- and rows; none for other frames, and none where the rate asks for more rows than there may be
abbrev pub grid : (s width height num den target_cols target_rows : ℕ) → Bool → Option TilingInfo
grid s width height num den target_cols target_rows is_422 =
    let whole_width = round_up width 8 in
    let whole_height = round_up height 8 in
    let min_tiles = min_tiles_log2 s (div_ceil whole_width (2 ^ s)) (div_ceil whole_height (2 ^ s)) in
    let rate_tiles = rate_log2 (whole_width * whole_height) num den in
    if is_frame s width height den
    then grid_within s whole_width whole_height min_tiles rate_tiles target_cols target_rows is_422
    else None
