-- Rows of the visible part of a plane.
use Rattle.std.proofs.Common.{◌≡◌, ℕ, ℤ, pos, ◌+◌, ◌-◌, ◌*◌, ◌<◌, ◌≤◌, length, map, take, drop, get_or, sym, subst, ◌∙◌, ap, arith, length-drop}
use Rattle.std.proofs.lemmas.List.{get_or-take, get_or-drop, length-take-le, length-map, take-map, drop-map}
use Rattle.std.proofs.lemmas.List.Elements.{All-from_get_or}
use Rattle.std.proofs.lemmas.Nat.{mul-le}
use Rattle.av1_plane.specs.declared.plane.Plane.{Plane}
use Rattle.av1_plane.specs.Numbers.{InDepth, Below}
use Rattle.av1_plane.specs.Place.{row_rest, origin_place}
use Rattle.av1_lrf.specs.Rows.{pixel, picture_of, HasStripePicture}

-- a visible row lies in the stored samples
row_stored : (row rows step n : ℕ) → row < rows → n ≡ step * rows → row * step + step ≤ n
row_stored row rows step n h e =
    let all : (row + 1) * step ≤ rows * step = mul-le (row + 1) step rows step (omega arith) (omega arith) in
    omega arith

-- a visible row has the width
pub row_long : {X : Type 0} → (p : Plane X) (width y : ℕ) → width ≤ p.cfg.width → y < p.cfg.height → length (take width (row_rest p.cfg p.samples.items (p.cfg.yorigin + y) p.cfg.xorigin)) ≡ width
row_long p width y w h =
    let inside : (p.cfg.yorigin + y) * p.cfg.stride + p.cfg.stride ≤ length p.samples.items = row_stored (p.cfg.yorigin + y) p.cfg.alloc_height p.cfg.stride (length p.samples.items) (omega (arith, p.high)) p.stored in
    let rest = drop ((p.cfg.yorigin + y) * p.cfg.stride + p.cfg.xorigin) p.samples.items in
    let left : length rest ≡ length p.samples.items - ((p.cfg.yorigin + y) * p.cfg.stride + p.cfg.xorigin) = length-drop _ p.samples.items in
    let run : length (take (p.cfg.stride - p.cfg.xorigin) rest) ≡ p.cfg.stride - p.cfg.xorigin = length-take-le (p.cfg.stride - p.cfg.xorigin) rest (omega (arith, p.wide)) in
    length-take-le width (take (p.cfg.stride - p.cfg.xorigin) rest) (omega (arith, p.wide))

-- the samples of a visible row are the picture's samples
pub row_numbers : {X : Type 0} → (number : X → ℤ) (p : Plane X) (width height y : ℕ) → width ≤ p.cfg.width → (x : ℕ) → x < width → get_or (map number (take width (row_rest p.cfg p.samples.items (p.cfg.yorigin + y) p.cfg.xorigin))) x (pos 0) ≡ pixel (picture_of number width height p) x y
row_numbers number p width height y w x l =
    let k = (p.cfg.yorigin + y) * p.cfg.stride + p.cfg.xorigin in
    let m = p.cfg.stride - p.cfg.xorigin in
    let same : k + x ≡ origin_place p.cfg + y * p.cfg.stride + x = omega arith in
    ap (λ xs. get_or xs x (pos 0)) (sym (take-map number width (take m (drop k p.samples.items))) ∙ ap (take width) (sym (take-map number m (drop k p.samples.items)) ∙ ap (take m) (sym (drop-map number k p.samples.items))))
    ∙ get_or-take width (take m (drop k (map number p.samples.items))) x (pos 0) l
    ∙ get_or-take m (drop k (map number p.samples.items)) x (pos 0) (omega (arith, p.wide))
    ∙ get_or-drop k (map number p.samples.items) x (pos 0)
    ∙ ap (λ i. get_or (map number p.samples.items) i (pos 0)) same

-- the samples of a visible row are in the picture's range
pub row_below : {X : Type 0} → (number : X → ℤ) (p : Plane X) (bound width height y : ℕ) → HasStripePicture number bound width height p → y < height → Below bound (map number (take width (row_rest p.cfg p.samples.items (p.cfg.yorigin + y) p.cfg.xorigin)))
row_below number p bound width height y h l =
    let row = take width (row_rest p.cfg p.samples.items (p.cfg.yorigin + y) p.cfg.xorigin) in
    record {
      each = All-from_get_or (InDepth bound) (map number row) (pos 0) (λ x lx.
          let inside : x < width = omega (arith, length-map row number, row_long p width y h.wide (omega (arith, h.high))) in
          subst (InDepth bound) (sym (row_numbers number p width height y h.wide x inside)) (h.range x y inside l));
    }
