-- Where a place of a plane stands in its list of samples.
use Rattle.std.proofs.Common.{◌≡◌, ℕ, ℤ, pos, ◌+◌, ◌*◌, ◌<◌, ◌≤◌, ◌^◌, ◌+ℤ◌, ◌≤ℤ◌, List, length, drop, length-drop, arith}
use Rattle.std.proofs.lemmas.List.{drop-drop}
use Rattle.std.proofs.lemmas.Nat.{mul-le}
use Rattle.std.proofs.lemmas.Int.{ints, to_z-of_z}
use Rattle.av1_plane.specs.declared.plane.PlaneConfig.{PlaneConfig}
use Rattle.av1_plane.specs.declared.region.Rect.{Rect}
use Rattle.av1_plane.specs.Place.{stored_at, IsInPlane}

-- a rectangle inside the stored rows lies inside the list, a last row that ends with it included
pub rect_fits : (row column width height step rows : ℕ) → column + width ≤ step → row + height ≤ rows → row * step + column + height * step + width ≤ step * rows + step
rect_fits row column width height step rows across down =
    let all : (row + height) * step ≤ rows * step = mul-le (row + height) step rows step down (omega arith) in
    omega arith

-- the samples from a rectangle's first one on hold the rectangle
pub rest_fits : {X : Type 0} (row column width height step rows : ℕ) (xs : List X) → column + width ≤ step → row + height ≤ rows → length xs ≡ step * rows → height * step + width ≤ length (drop column (drop (row * step) xs)) + step
rest_fits row column width height step rows xs across down all =
    let fits : row * step + column + height * step + width ≤ step * rows + step = rect_fits row column width height step rows across down in
    simp (length-drop) (omega arith)

-- n places from a stored one on are stored
pub stored_run : (origin : ℕ) (place : ℤ) (n limit : ℕ) → pos 0 ≤ℤ (pos origin +ℤ place) → (pos origin +ℤ place +ℤ pos n) ≤ℤ pos limit → stored_at origin place + n ≤ limit
stored_run origin place n limit low high = omega (arith, ints)

-- the columns of a rectangle end inside the stored row
pub rect_columns : (cfg : PlaneConfig) (rect : Rect) → IsInPlane cfg rect → stored_at cfg.xorigin rect.x + rect.width ≤ cfg.stride
rect_columns cfg rect within = stored_run cfg.xorigin rect.x rect.width cfg.stride within.left within.right

-- the rows of a rectangle in the stored rows end inside the list
pub rect_rows : (cfg : PlaneConfig) (rect : Rect) → IsInPlane cfg rect → stored_at cfg.yorigin rect.y + rect.height ≤ cfg.alloc_height
rect_rows cfg rect within = stored_run cfg.yorigin rect.y rect.height cfg.alloc_height within.top within.bottom

-- a stored row begins inside the list
pub row_start_bound : (row step rows n : ℕ) → row ≤ rows → step * rows < n → row * step < n
row_start_bound row step rows n h m =
    let all : row * step ≤ rows * step = mul-le row step rows step h (omega arith) in
    omega arith

-- the first sample of a rectangle with a row stands in the list, or just past it
pub start_bound : (row column height step rows n : ℕ) → column ≤ step → row + height ≤ rows → 0 < height → step * rows < n → row * step + column < n
start_bound row column height step rows n across down some m =
    let all : (row + 1) * step ≤ rows * step = mul-le (row + 1) step rows step (omega arith) (omega arith) in
    omega arith

-- a stored row ends inside the list
pub row_end_bound : (row step rows n : ℕ) → row < rows → n ≡ step * rows → row * step + step ≤ n
row_end_bound row step rows n h e =
    let all : (row + 1) * step ≤ rows * step = mul-le (row + 1) step rows step (omega arith) (omega arith) in
    omega arith

-- the samples from the first one of a part of a region on hold the part
pub part_fits : {X : Type 0} (row column width height step rows : ℕ) (xs : List X) → column + width ≤ step → row + height ≤ rows → 0 < rows → rows * step + (column + width) ≤ length xs + step → height * step + width ≤ length (drop column (drop (row * step) xs)) + step
part_fits row column width height step rows xs across down some all =
    let products : (row + height) * step ≤ rows * step = mul-le (row + height) step rows step down (omega arith) in
    simp (length-drop) (omega arith)

-- a part with a row of a region for writing
pub part_end : (start row column width height step rows columns n : ℕ) → column + width ≤ columns → row + height ≤ rows → start + rows * step + columns ≤ n + step → start + row * step + column + height * step + width ≤ n + step
part_end start row column width height step rows columns n across down all =
    let products : (row + height) * step ≤ rows * step = mul-le (row + height) step rows step down (omega arith) in
    omega arith

-- a row before the last begins inside the vector
pub part_row : (start row height step rows columns n : ℕ) → row + height ≤ rows → 0 < height → start + rows * step + columns ≤ n + step → start + row * step + columns ≤ n
part_row start row height step rows columns n down some all =
    let products : (row + 1) * step ≤ rows * step = mul-le (row + 1) step rows step (omega arith) (omega arith) in
    omega arith

-- consecutive rows of a region lie in the plane, the last one up to its last sample
pub band_fits : (start y more height step width n : ℕ) → y + more + 1 ≤ height → start + height * step + width ≤ n + step → start + y * step + (more * step + width) ≤ n
band_fits start y more height step width n within all =
    let products : (y + more + 1) * step ≤ height * step = mul-le (y + more + 1) step height step within (omega arith) in
    omega arith

pub ruleset signed = (to_z-of_z)

pub ruleset in_plane = (rect_columns, rect_rows, rect_fits, row_start_bound, start_bound, row_end_bound, drop-drop)
