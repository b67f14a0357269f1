-- Writing a picture into a plane, and spreading it over all stored samples.
use Rattle.std.proofs.Common.{◌≡◌, ℕ, ℤ, pos, ◌+◌, ◌-◌, ◌*◌, ◌<◌, ◌≤◌, ◌==◌, inl, inr, List, [], ◌∷◌, length, map, get_or, Vec, Global, true, All, sym, ap, ◌∙◌, arith}
use Rattle.std.specs.List.{list_all}
use Rattle.std.proofs.lemmas.Nat.{mul-le}
use Rattle.std.proofs.lemmas.List.{length-map, get_or-map}
use Rattle.std.proofs.lemmas.Bool.{cases_lt, and_parts, eqb-true}
use Rattle.av1_plane.specs.declared.plane.Plane.{Plane}
use Rattle.av1_plane.specs.declared.plane.PlaneConfig.{PlaneConfig}
use Rattle.av1_plane.specs.declared.frame.Frame.{Frame}
use Rattle.av1_plane.specs.declared.three.Three.{Three}
use Rattle.av1_plane.specs.Layout.{at, nearest, visible, frame_layout, IsPadded, CanPad}
use Rattle.av1_plane.specs.Planes.{IsBlank}
use Rattle.av1_block.specs.Cut.{overwritten}
use Rattle.av1_block.proofs.Runs.{overwritten_before, overwritten_within, map-overwritten}
use Rattle.av1_tiling.specs.Views.{view_plane, view_frame}
use Rattle.av1_rec.specs.declared.text.header.FrameFormat.{FrameFormat}
use Rattle.av1_rec.specs.Lines.{said_planes}
use Rattle.av1_rec.specs.Recorded.{have_sides}
use Rattle.av1_rec.specs.Lines.{numbers_of}
use Rattle.av1_rec.specs.Picture.{picture_sample, nearest_sample, picture_plane, source_frame}
use Rattle.av1_rec.proofs.RecordedRows.{row_long}
use Rattle.av1_rec.proofs.FirstValues.{by_places}

-- The numbers of a row are the row of the numbers.
pub row_of : {T : Type 0} (number : T → ℤ) (rows : List (Vec T Global)) (y : ℕ) (row : Vec T Global) → y < length rows → row ≡ get_or rows y row → get_or (numbers_of number rows) y [] ≡ map number row.items
row_of number rows y row below read =
    get_or-map (λ (r : Vec _ Global). map number r.items) rows y row [] below ∙ ap (λ (r : Vec _ Global). map number r.items) (sym read)

-- rows that fit a plane fit it as numbers
pub fits_of : {T : Type 0} (number : T → ℤ) (left s : ℕ) (rows : List (Vec T Global)) → All (λ (row : Vec T Global). left + length row.items ≤ s) rows → (k : ℕ) → k < length rows → left + length (get_or (numbers_of number rows) k []) ≤ s
fits_of number left s [] all k below = absurd (omega arith)
fits_of number left s (r ∷ rows) all k below =
    let row = get_or (r ∷ rows) k r in
    let long : length (get_or (numbers_of number (r ∷ rows)) k []) ≡ length row.items =
    ap length (get_or-map (λ (v : Vec _ Global). map number v.items) (r ∷ rows) k r [] below) ∙ length-map row.items number in
    let fits : left + length row.items ≤ s = all k r below in
    omega (arith, long, fits)

-- Samples that were written over a list are written over the list of its numbers.
pub numbers_written : {T : Type 0} (number : T → ℤ) (old new run : List T) (i : ℕ) → new ≡ overwritten old i run → map number new ≡ overwritten (map number old) i (map number run)
numbers_written number old new run i e = ap (map number) e ∙ map-overwritten number old i run

-- one row more of a picture is written
pub row_more : (s left top i : ℕ) (rs : List (List ℤ)) (xs ys run : List ℤ) → get_or rs i [] ≡ run → i < length rs
    → ((k : ℕ) → k < length rs → left + length (get_or rs k []) ≤ s) → (top + length rs) * s ≤ length xs → ys ≡ overwritten xs (top * s + i * s + left) run
    → ((x y : ℕ) → y < i → x < length (get_or rs y []) → at xs s (left + x) (top + y) ≡ picture_sample rs x y)
    → (x y : ℕ) → y < i + 1 → x < length (get_or rs y []) → at ys s (left + x) (top + y) ≡ picture_sample rs x y
row_more s left top i rs xs ys run read below fits stored written before x y hy hx =
    let start = top * s + i * s + left in
    let place = (top + y) * s + (left + x) in
    let room : left + length (get_or rs i []) ≤ s = fits i below in
    let last : (top + i + 1) * s ≤ (top + length rs) * s = mul-le (top + i + 1) s (top + length rs) s (omega arith) (omega arith) in
    let inside : start ≤ length xs = omega (arith, last, room, stored) in
    ap (λ (l : List ℤ). get_or l place (pos 0)) written ∙ elim (cases_lt y i) [
      | inl less ↦
          let across : left + length (get_or rs y []) ≤ s = fits y (omega (arith, less, below)) in
          let higher : (top + y + 1) * s ≤ (top + i) * s = mul-le (top + y + 1) s (top + i) s (omega (arith, less)) (omega arith) in
          overwritten_before xs start run place (pos 0) inside (omega (arith, higher, across, hx)) ∙ before x y less hx
      | inr more ↦
          let same : y ≡ i = omega (arith, hy, more) in
          let level : (top + y) * s ≡ (top + i) * s = ap (λ n. (top + n) * s) same in
          let here : get_or rs y [] ≡ run = ap (λ n. get_or rs n []) same ∙ read in
          let long : length (get_or rs y []) ≡ length run = ap (λ (l : List ℤ). length l) here in
          overwritten_within xs start run place (pos 0) inside (omega (arith, level)) (omega (arith, level, long, hx))
          ∙ (ap (λ n. get_or run n (pos 0)) (let e : place - start ≡ x = omega (arith, level) in e) ∙ ap (λ (l : List ℤ). get_or l x (pos 0)) (sym here))
    ]

-- rows that pass the test of sides have these sides
pub have : (w h : ℕ) (rs : List (List ℤ)) → have_sides (w, h) rs ≡ true → (length rs ≡ h) × ((y : ℕ) → y < h → length (get_or rs y []) ≡ w)
have w h rs e =
    let p = and_parts (length rs == h) (list_all (λ row. length row == w) rs) e in
    let count : length rs ≡ h = eqb-true (length rs) h p.0 in
    (count, λ y below. row_long w rs y [] p.1 (omega (arith, count, below)))

-- a row of a list of samples is as long as its numbers
pub all_fit : {T : Type 0} (number : T → ℤ) (left s w h : ℕ) (rows : List (Vec T Global)) → left + w ≤ s → have_sides (w, h) (numbers_of number rows) ≡ true → All (λ (row : Vec T Global). left + length row.items ≤ s) rows
all_fit number left s w h rows fits e k d below =
    let sides = have w h (numbers_of number rows) e in
    let count : length (numbers_of number rows) ≡ length rows = length-map rows (λ (v : Vec _ Global). map number v.items) in
    let row = get_or rows k d in
    let long : length (get_or (numbers_of number rows) k []) ≡ length row.items =
    ap length (get_or-map (λ (v : Vec _ Global). map number v.items) rows k d [] below) ∙ length-map row.items number in
    let wide : length (get_or (numbers_of number rows) k []) ≡ w = sides.1 k (omega (arith, count, sides.0, below)) in
    omega (arith, long, wide, fits)

-- the rows of a picture are in the plane, all of each
pub in_place : {T : Type 0} (number : T → ℤ) (rows : List (Vec T Global)) (cfg : PlaneConfig) (vw vh : ℕ) (before : List ℤ) → have_sides (vw, vh) (numbers_of number rows) ≡ true
    → ((x y : ℕ) → y < length rows → x < length (get_or (numbers_of number rows) y []) → at before cfg.stride (cfg.xorigin + x) (cfg.yorigin + y) ≡ picture_sample (numbers_of number rows) x y)
    → (x y : ℕ) → x < vw → y < vh → at before cfg.stride (cfg.xorigin + x) (cfg.yorigin + y) ≡ picture_sample (numbers_of number rows) x y
in_place number rows cfg vw vh before e f x y hx hy =
    let sides = have vw vh (numbers_of number rows) e in
    let count : length (numbers_of number rows) ≡ length rows = length-map rows (λ (v : Vec _ Global). map number v.items) in
    let wide : length (get_or (numbers_of number rows) y []) ≡ vw = sides.1 y hy in
    f x y (omega (arith, count, sides.0, hy)) (omega (arith, wide, hx))

-- rows that lie in a plane fit the list of its samples
pub down_fits : {T : Type 0} (number : T → ℤ) (rows : List (Vec T Global)) (top s w h height total : ℕ) → have_sides (w, h) (numbers_of number rows) ≡ true → top + h ≤ height → total ≡ s * height → (top + length rows) * s ≤ total
down_fits number rows top s w h height total e fits stored =
    let sides = have w h (numbers_of number rows) e in
    let count : length (numbers_of number rows) ≡ length rows = length-map rows (λ (v : Vec _ Global). map number v.items) in
    omega (arith, stored, mul-le (top + length rows) s height s (omega (arith, count, sides.0, fits)) (omega arith))

-- A run inside a row ends inside the list.
pub run_fits : (s left top i n len total : ℕ) → i < n → left + len ≤ s → (top + n) * s ≤ total → top * s + i * s + left + len ≤ total
run_fits s left top i n len total below fits stored = omega (arith, fits, stored, mul-le (top + i + 1) s (top + n) s (omega (arith, below)) (omega arith))

-- a picture that is in place and padded is spread over all stored samples
pub spread : (cfg : PlaneConfig) (w h : ℕ) (rs : List (List ℤ)) (before after : List ℤ) → length before ≡ cfg.stride * cfg.alloc_height → CanPad cfg w h
    → IsPadded cfg (visible w cfg.xdec) (visible h cfg.ydec) before after
    → ((x y : ℕ) → x < visible w cfg.xdec → y < visible h cfg.ydec → at before cfg.stride (cfg.xorigin + x) (cfg.yorigin + y) ≡ picture_sample rs x y)
    → after ≡ (picture_plane cfg w h rs).samples
spread cfg w h rs before after count can padded written =
    by_places (pos 0) (nearest_sample cfg (visible w cfg.xdec) (visible h cfg.ydec) rs) cfg.stride cfg.alloc_height after (padded.length ∙ count)
    (λ x y hx hy. padded.samples x y hx hy ∙ from_picture (visible w cfg.xdec) (visible h cfg.ydec) x y can.some_width can.some_height written)
  where
    from_picture : (vw vh x y : ℕ) → 1 ≤ vw → 1 ≤ vh → ((x y : ℕ) → x < vw → y < vh → at before cfg.stride (cfg.xorigin + x) (cfg.yorigin + y) ≡ picture_sample rs x y)
        → at before cfg.stride (nearest cfg.xorigin vw x) (nearest cfg.yorigin vh y) ≡ nearest_sample cfg vw vh rs x y
    from_picture vw vh x y some_width some_height f =
        let u = nearest cfg.xorigin vw x - cfg.xorigin in
        let v = nearest cfg.yorigin vh y - cfg.yorigin in
        let column : nearest cfg.xorigin vw x ≡ cfg.xorigin + u = omega arith in
        let row : nearest cfg.yorigin vh y ≡ cfg.yorigin + v = omega arith in
        (λ i. at before cfg.stride (column i) (row i)) ∙ f u v (omega arith) (omega arith)

-- A plane that holds rows, in the layout of its frame.
module _ {T : Type 0} (number : T → ℤ) (w h : ℕ) (blank p : Plane T) (layout : PlaneConfig) (lent rows : List (Vec T Global)) where
  -- A plane that holds the rows it was lent holds them under the frame's layout.
  plane_held : blank.cfg ≡ layout → lent ≡ rows → view_plane number p ≡ picture_plane blank.cfg w h (numbers_of number lent) → view_plane number p ≡ picture_plane layout w h (numbers_of number rows)
  plane_held same read filled = filled ∙ (λ i. picture_plane (same i) w h (numbers_of number (read i)))

-- a frame whose planes hold the rows of a picture holds the picture
pub held : {T : Type 0} (number : T → ℤ) (f : FrameFormat) (blank : Frame T) → IsBlank number f.width f.height f.sampling blank → (y u v : Plane T) (ys us vs : List (Vec T Global)) (source : Three (Vec (Vec T Global) Global))
    → ys ≡ source.y.items → us ≡ source.u.items → vs ≡ source.v.items
    → view_plane number y ≡ picture_plane blank.planes.y.cfg f.width f.height (numbers_of number ys) → view_plane number u ≡ picture_plane blank.planes.u.cfg f.width f.height (numbers_of number us) → view_plane number v ≡ picture_plane blank.planes.v.cfg f.width f.height (numbers_of number vs)
    → view_frame number (record { planes = record { y = y; u = u; v = v } }) ≡ source_frame f (said_planes number source)
unfolding source_frame
held number f blank new y u v ys us vs source ry ru rv hy hu hv =
    let layout = frame_layout f.width f.height f.sampling in
    let ey = plane_held number f.width f.height blank.planes.y y layout.y ys source.y.items new.y.cfg ry hy in
    let eu = plane_held number f.width f.height blank.planes.u u layout.u us source.u.items new.u.cfg ru hu in
    let ev = plane_held number f.width f.height blank.planes.v v layout.v vs source.v.items new.v.cfg rv hv in
    λ i. record { y = ey i; u = eu i; v = ev i }
