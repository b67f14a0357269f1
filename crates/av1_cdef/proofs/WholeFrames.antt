-- The samples of a filtered tile that is the whole frame are the samples of the frame's definition.
use Rattle.std.proofs.Common.{◌≡◌, ℕ, ℤ, pos, zero, suc, ◌+◌, ◌-◌, ◌*◌, ◌/◌, ◌%◌, ◌^◌, ◌<◌, ◌≤◌, List, [], ◌∷◌, length, get_or, map, refl, sym, ◌∙◌, ap, subst, arith, inl, inr, Bool, true, false}
use Rattle.std.specs.Prelude.{if◌then◌else◌}
use Rattle.std.proofs.Math.Nat.{mod-add-div'}
use Rattle.std.proofs.lemmas.Nat.{div-mul-add, mod-mul-add}
use Rattle.std.proofs.lemmas.List.{ext_get_or}
use Rattle.std.proofs.lemmas.Bool.{cases_lt}
use Rattle.std.proofs.lemmas.Bool.Decides.{nat_tests}
use Rattle.av1_plane.specs.Place.{origin_place}
use Rattle.av1_plane.specs.Region.{spot, numbers_under}
use Rattle.av1_plane.specs.declared.plane.PlaneConfig.{PlaneConfig}
use Rattle.av1_plane.specs.declared.plane.Plane.{Plane}
use Rattle.av1_plane.specs.declared.frame.Frame.{Frame}
use Rattle.av1_plane.specs.declared.region_mut.PlaneRegionMut.{PlaneRegionMut}
use Rattle.av1_plane.specs.declared.tile_mut.TileMut.{TileMut}
use Rattle.av1_block.specs.declared.block.Block.{Block}
use Rattle.av1_block.specs.Tables.{TileBlocks, view_entries, view_step, view_x, view_y, view_cols, view_rows}
use Rattle.av1_tiling.specs.Views.{view_plane, view_frame}
use Rattle.av1_tiling.specs.Frames.{Parameters, IsFrame, IsInputFor}
use Rattle.av1_cdef.specs.Conditions.{IsViewFor, HoldsView}
use Rattle.av1_cdef.proofs.Made.{y_filtered, u_filtered, v_filtered, blocks_wide, blocks_high}
use Rattle.av1_cdef.specs.Picture.{CdefPicture}
use Rattle.av1_cdef.specs.Frame.{Deblocked, cdef_block_width, cdef_block_height, cdef}
use Rattle.av1_cdef.specs.Analysis.{header_of, plane_picture, deblocked_of}
use Rattle.av1_cdef.specs.Superblock.{channel_of}
use Rattle.av1_cdef.specs.Tile.{sample_cdef, HasTile, IsFilteredTilePlane, IsFilteredTile}
use Rattle.av1_cdef.specs.Whole.{whole_frame, in_picture, with_picture, cdef_plane, cdef_frame, LiesOn, IsWholeFrame, HasPlanes}

-- Entries of a list of samples with a picture in it.

-- a list with a picture in it is as long as before
length-with_picture : (cfg : PlaneConfig) (value : ℕ → ℕ → ℤ) (k : ℕ) (xs : List ℤ) → length (with_picture cfg value k xs) ≡ length xs
unfolding with_picture
length-with_picture cfg value k [] = refl
length-with_picture cfg value k (x ∷ xs) = ap suc (length-with_picture cfg value (suc k) xs)

-- what stands at place n, where `old` stood
abbrev picked : PlaneConfig → (ℕ → ℕ → ℤ) → ℕ → ℤ → ℤ
picked cfg value n old = if in_picture cfg n then value (n % cfg.stride - cfg.xorigin) (n / cfg.stride - cfg.yorigin) else old

-- an entry of a list with a picture in it is the picture's sample or the old one
get_or-with_picture : (cfg : PlaneConfig) (value : ℕ → ℕ → ℤ) (k : ℕ) (xs : List ℤ) (i : ℕ) → i < length xs → get_or (with_picture cfg value k xs) i (pos 0) ≡ picked cfg value (k + i) (get_or xs i (pos 0))
unfolding with_picture
get_or-with_picture cfg value k [] i l = absurd (omega arith)
get_or-with_picture cfg value k (x ∷ xs) zero l = let e : k + 0 ≡ k = omega arith in ap (λ n. picked cfg value n x) (sym e)
get_or-with_picture cfg value k (x ∷ xs) (suc i) l =
    let e : suc k + i ≡ k + suc i = omega arith in
    get_or-with_picture cfg value (suc k) xs i (omega arith) ∙ ap (λ n. picked cfg value n (get_or xs i (pos 0))) e

-- a place inside the plane, by its column and row
place_inside : (s yo xo n : ℕ) → xo ≤ n % s → yo ≤ n / s → spot (yo * s + xo) s (n % s - xo) (n / s - yo) ≡ n
place_inside s yo xo n lx ly =
    let row : yo + (n / s - yo) ≡ n / s = omega arith in
    let rows : (yo + (n / s - yo)) * s ≡ yo * s + (n / s - yo) * s = grind arith in
    let same : (yo + (n / s - yo)) * s ≡ n / s * s = ap (λ m. m * s) row in
    let whole = mod-add-div' n s in
    omega arith

-- the column and the row of a place of the picture are found from the place
place_column : (s yo xo x y : ℕ) → xo + x < s → ((yo * s + xo + y * s + x) % s ≡ xo + x) × ((yo * s + xo + y * s + x) / s ≡ yo + y)
place_column s yo xo x y l =
    let e : yo * s + xo + y * s + x ≡ (yo + y) * s + (xo + x) = grind arith in
    (rw e (mod-mul-add (yo + y) s (xo + x) l), rw e (div-mul-add (yo + y) s (xo + x) l))

-- samples of the tile inside the plane and old ones elsewhere are the list with the picture
pub with_picture_of_tile : (cfg : PlaneConfig) (value other : ℕ → ℕ → ℤ) (xs ys : List ℤ) → cfg.xorigin + cfg.width ≤ cfg.stride
    → HasTile (origin_place cfg) cfg.stride cfg.width cfg.height value xs ys → ((x y : ℕ) → value x y ≡ other x y)
    → ys ≡ with_picture cfg other 0 xs
with_picture_of_tile cfg value other xs ys wide h same =
    ext_get_or (pos 0) ys (with_picture cfg other 0 xs) (h.long ∙ sym (length-with_picture cfg other 0 xs)) (λ i l.
    let long = h.long in
    let inside : i < length xs = omega arith in
    let zero_first : 0 + i ≡ i = omega arith in
    at i (in_picture cfg i) refl ∙ ap (λ n. picked cfg other n (get_or xs i (pos 0))) (sym zero_first) ∙ sym (get_or-with_picture cfg other 0 xs i inside))
  where
    at : (i : ℕ) → (b : Bool) → in_picture cfg i ≡ b → get_or ys i (pos 0) ≡ picked cfg other i (get_or xs i (pos 0))
    at i true e =
        let left : cfg.xorigin ≤ i % cfg.stride = grind (arith, nat_tests, e) in
        let right : i % cfg.stride < cfg.xorigin + cfg.width = grind (arith, nat_tests, e) in
        let top : cfg.yorigin ≤ i / cfg.stride = grind (arith, nat_tests, e) in
        let bottom : i / cfg.stride < cfg.yorigin + cfg.height = grind (arith, nat_tests, e) in
        let place = place_inside cfg.stride cfg.yorigin cfg.xorigin i left top in
        let x = i % cfg.stride - cfg.xorigin in
        let y = i / cfg.stride - cfg.yorigin in
        rw e (ap (λ n. get_or ys n (pos 0)) (sym place) ∙ h.on x y (omega arith) (omega arith) ∙ same x y)
    at i false e = rw e (h.off i (λ x y lx ly is.
        let at = place_column cfg.stride cfg.yorigin cfg.xorigin x y (omega arith) in
        let column : i % cfg.stride ≡ cfg.xorigin + x = rw is at.0 in
        let row : i / cfg.stride ≡ cfg.yorigin + y = rw is at.1 in
        let t : in_picture cfg i ≡ true = rw (column, row) (grind (arith, nat_tests)) in
        let no : true ≡ false = sym t ∙ e in
        cc))

-- a view of the whole table sees the whole frame
pub same_frame : (params : Parameters) (luma : CdefPicture) (blocks : List Block) (step x y cols rows : ℕ) → step ≡ params.w_in_b → x ≡ 0 → y ≡ 0 → cols ≡ params.w_in_b → rows ≡ params.h_in_b
    → let d : Deblocked = record { header = header_of params; luma = luma; blocks = blocks; step = step; x = x; y = y; cols = cols; rows = rows } in d ≡ whole_frame params blocks luma
same_frame params luma blocks step x y cols rows es ex ey ec er = rw (es, ex, ey, ec, er) refl

-- a plane of a tile that is the whole frame is the filtered plane
pub whole_plane : {X : Type 0} (number : X → ℤ) (d : Deblocked) (pli : ℕ) (p : Plane X) (a b : PlaneRegionMut X) → d.x ≡ 0 → d.y ≡ 0
    → (0 < p.cfg.width → p.cfg.width ≡ 8 / 2 ^ p.cfg.xdec * (d.cols / 2)) → (0 < p.cfg.width → p.cfg.height ≡ 8 / 2 ^ p.cfg.ydec * (d.rows / 2))
    → LiesOn number p a → IsFilteredTilePlane number d (channel_of number pli p) a b
    → numbers_under number b ≡ (cdef_plane d pli (view_plane number p)).samples
unfolding cdef_plane sample_cdef
whole_plane number d pli p a b ex ey ew eh on h =
    with_picture_of_tile p.cfg (sample_cdef d (channel_of number pli p)) (cdef d (channel_of number pli p)) (map number p.samples.items) (numbers_under number b) p.wide
    (elim (cases_lt 0 p.cfg.width) [
      | inl some ↦ rw (on.start some, on.step, on.samples, ← ew some, ← eh some) at h.samples some
      | inr none ↦ let zero_width : p.cfg.width ≡ 0 = omega arith in rw (h.none zero_width ∙ on.samples) record { long = refl; on = λ x y lx ly. absurd (omega arith); off = λ k f. refl }
    ])
    (λ x y.
    let left : cdef_block_width (channel_of number pli p) * d.x ≡ 0 = ap (λ n. cdef_block_width (channel_of number pli p) * n) ex ∙ (omega arith) in
    let top : cdef_block_height (channel_of number pli p) * d.y ≡ 0 = ap (λ n. cdef_block_height (channel_of number pli p) * n) ey ∙ (omega arith) in
    let column : cdef_block_width (channel_of number pli p) * d.x + x ≡ x = omega arith in
    let row : cdef_block_height (channel_of number pli p) * d.y + y ≡ y = omega arith in
    ap (λ n. cdef d (channel_of number pli p) n (cdef_block_height (channel_of number pli p) * d.y + y)) column ∙ ap (cdef d (channel_of number pli p) x) row)

-- a whole frame that was filtered tile by tile has the samples of the frame's definition
pub whole_filtered : {X : Type 0} (number : X → ℤ) (limit : ℕ) (params : Parameters) (f : Frame X) (b : TileBlocks) (s t : TileMut X)
    → IsFrame limit params → IsInputFor params (view_frame number f) → IsViewFor params b → HoldsView f b s → IsWholeFrame number params f b s
    → IsFilteredTile number (deblocked_of number params f b) f s t → HasPlanes number (cdef_frame params (view_entries b) (view_frame number f)) t
whole_filtered number limit params f b s t h i v room whole done =
    let across = b.across in
    let down = b.down in
    let ec = v.table_cols in
    let er = v.table_rows in
    let wc = whole.cols in
    let wr = whole.rows in
    let x : view_x b / 2 ≡ 0 = omega arith in
    let y : view_y b / 2 ≡ 0 = omega arith in
    let wide = blocks_wide number limit params f h i in
    let high = blocks_high number limit params f h i in
    let same = same_frame params (plane_picture number f.planes.y) (view_entries b) (view_step b) (view_x b / 2) (view_y b / 2) (view_cols b) (view_rows b) whole.table x y whole.cols whole.rows in
    record {
      y =
          let can = λ (some : 0 < f.planes.y.cfg.width). y_filtered number limit 0 0 params f b s.planes.y h i room.y (omega arith) (omega arith) some in
          whole_plane number (whole_frame params (view_entries b) (plane_picture number f.planes.y)) 0 f.planes.y s.planes.y t.planes.y refl refl
          (λ some. (can some).width ∙ ap (λ n. 8 / 2 ^ f.planes.y.cfg.xdec * n) wide) (λ some. (can some).height ∙ ap (λ n. 8 / 2 ^ f.planes.y.cfg.ydec * n) high)
          whole.y (subst (λ z. IsFilteredTilePlane number z (channel_of number 0 f.planes.y) s.planes.y t.planes.y) same done.y);
      u =
          let can = λ (some : 0 < f.planes.u.cfg.width). u_filtered number limit 0 0 params f b s.planes.u h i room.u (omega arith) (omega arith) some in
          whole_plane number (whole_frame params (view_entries b) (plane_picture number f.planes.y)) 1 f.planes.u s.planes.u t.planes.u refl refl
          (λ some. (can some).width ∙ ap (λ n. 8 / 2 ^ f.planes.u.cfg.xdec * n) wide) (λ some. (can some).height ∙ ap (λ n. 8 / 2 ^ f.planes.u.cfg.ydec * n) high)
          whole.u (subst (λ z. IsFilteredTilePlane number z (channel_of number 1 f.planes.u) s.planes.u t.planes.u) same done.u);
      v =
          let can = λ (some : 0 < f.planes.v.cfg.width). v_filtered number limit 0 0 params f b s.planes.v h i room.v (omega arith) (omega arith) some in
          whole_plane number (whole_frame params (view_entries b) (plane_picture number f.planes.y)) 2 f.planes.v s.planes.v t.planes.v refl refl
          (λ some. (can some).width ∙ ap (λ n. 8 / 2 ^ f.planes.v.cfg.xdec * n) wide) (λ some. (can some).height ∙ ap (λ n. 8 / 2 ^ f.planes.v.cfg.ydec * n) high)
          whole.v (subst (λ z. IsFilteredTilePlane number z (channel_of number 2 f.planes.v) s.planes.v t.planes.v) same done.v);
    }
