-- The lowest level of least error is one number, and planes of a frame can be compared with their source.
use Rattle.std.proofs.Common.{◌≡◌, ℕ, zero, suc, ℤ, pos, negsuc, ◌+◌, ◌*◌, ◌/◌, ◌^◌, ◌<◌, ◌≤◌, inl, inr, List, [], ◌∷◌, length, map, drop, get_or, All, Bool, true, false, true≢false, refl, sym, ap, ◌∙◌, subst, arith}
use Rattle.std.specs.Prelude.{nat_lt, ◌==◌, ◌||◌, if◌then◌else◌}
use Rattle.std.proofs.lemmas.Bool.{cases_lt}
use Rattle.std.proofs.lemmas.Bool.Decides.{nat_tests}
use Rattle.std.proofs.lemmas.List.{drop-map, get_or-drop}
use Rattle.std.proofs.Math.Nat.{add-mul}
use Rattle.av1_plane.specs.declared.three.Three.{Three}
use Rattle.av1_plane.specs.declared.plane.PlaneConfig.{PlaneConfig}
use Rattle.av1_plane.specs.declared.plane.Plane.{Plane}
use Rattle.av1_plane.specs.declared.region.PlaneRegion.{PlaneRegion}
use Rattle.av1_plane.specs.declared.sampling.ChromaSampling.{ChromaSampling}
use Rattle.av1_plane.specs.declared.sampling.ChromaSampling.TheVariants.{Cs420, Cs422, Cs444, Cs400}
use Rattle.av1_plane.specs.Numbers.{InDepth, IsDepth}
use Rattle.av1_plane.specs.Layout.{frame_layout, rounded, at}
use Rattle.av1_plane.specs.Place.{origin_place}
use Rattle.av1_plane.specs.Region.{spot}
use Rattle.av1_plane.specs.Reading.{step_seen, numbers_seen}
use Rattle.av1_plane.specs.Regions.{ShowsPlane}
use Rattle.av1_block.specs.declared.block.Block.{Block}
use Rattle.av1_tiling.specs.Views.{PlaneView, view_plane}
use Rattle.av1_tiling.specs.Frames.{Parameters, IsInRange, IsInputFor, FitsDepth}
use Rattle.av1_deblock.specs.Edges.{BlockTable}
use Rattle.av1_deblock.specs.Passes.{frame_plane, is_empty}
use Rattle.av1_deblock.specs.Conditions.{IsDecimated, ShowsRounded, ShowsDepth}
use Rattle.av1_deblock.specs.Frames.{frame_shape}
use Rattle.av1_deblock.specs.Errors.{IsLowestLeast}
use Rattle.av1_deblock.specs.Choice.{Measured, AreBest, AreLevels, CanTally, level_of, error_at, error_of_both, measured_plane, guessed_level, is_key}
use Rattle.av1_deblock.specs.Levels.{clamped_level, fitted_level}
use Rattle.av1_frame.specs.Planes.{FitsFrame, IsPlaneFor}
use Rattle.av1_frame.specs.Reference.{lowest_least, fast_levels, levels_of, measured_in, from_first, block_table}

-- The lowest level of least error.

-- the lowest number so far stays the lowest, or the next one replaces it
one_more : (f : ℕ → ℕ) (n best : ℕ) (b : Bool) → IsLowestLeast f (suc n) best → nat_lt (f (suc n)) (f best) ≡ b
    → IsLowestLeast f (suc (suc n)) (if b then suc n else best)
one_more f n best true h test =
    let less : f (suc n) < f best = grind (arith, nat_tests) in
    record {
      inside = omega arith;
      least = λ m l. elim (cases_lt m (suc n)) [
        | inl below ↦ let other = h.least m below in omega arith
        | inr above ↦ let same : suc n ≡ m = omega arith in subst (λ (k : ℕ). f (suc n) ≤ f k) same (omega arith)
      ];
      lowest = λ m l. let other = h.least m l in omega arith;
    }
one_more f n best false h test =
    let most : f best ≤ f (suc n) = grind (arith, nat_tests) in
    record {
      inside = let inside = h.inside in omega arith;
      least = λ m l. elim (cases_lt m (suc n)) [
        | inl below ↦ h.least m below
        | inr above ↦ let same : suc n ≡ m = omega arith in subst (λ (k : ℕ). f best ≤ f k) same most
      ];
      lowest = h.lowest;
    }

-- The function `lowest_least` finds the lowest number up to n at which f is least.
lowest_found : (f : ℕ → ℕ) (n : ℕ) → IsLowestLeast f (suc n) (lowest_least f n)
unfolding lowest_least
lowest_found f zero = record {
  inside = omega arith;
  least = λ m l. let same : 0 ≡ m = omega arith in subst (λ (k : ℕ). f 0 ≤ f k) same (omega arith);
  lowest = λ m l. absurd (omega arith);
}
lowest_found f (suc n) = one_more f n (lowest_least f n) (nat_lt (f (suc n)) (f (lowest_least f n))) (lowest_found f n) refl

-- at most one number is the lowest at which f is least
lowest_once : (f : ℕ → ℕ) (n a b : ℕ) → IsLowestLeast f n a → IsLowestLeast f n b → a ≡ b
lowest_once f n a b ha hb =
    let first : f a ≤ f b = ha.least b hb.inside in
    let second : f b ≤ f a = hb.least a ha.inside in
    elim (cases_lt a b) [
      | inl below ↦ let less : f b < f a = hb.lowest a below in absurd (omega arith)
      | inr above ↦ elim (cases_lt b a) [
        | inl less ↦ let more : f a < f b = ha.lowest b less in absurd (omega arith)
        | inr same ↦ omega arith
      ]
    ]

-- A lowest level of least error is the one that `lowest_least` finds.
lowest_is : (f : ℕ → ℕ) (best : ℕ) → IsLowestLeast f 64 best → best ≡ lowest_least f 63
lowest_is f best h = lowest_once f 64 best (lowest_least f 63) h (lowest_found f 63)

-- a list of length 4 is the list of its four entries
four_of : (xs : List ℕ) → length xs ≡ 4 → xs ≡ get_or xs 0 0 ∷ get_or xs 1 0 ∷ get_or xs 2 0 ∷ get_or xs 3 0 ∷ []
four_of [] e = absurd (omega arith)
four_of (a ∷ []) e = absurd (omega arith)
four_of (a ∷ b ∷ []) e = absurd (omega arith)
four_of (a ∷ b ∷ c ∷ []) e = absurd (omega arith)
four_of (a ∷ b ∷ c ∷ d ∷ []) e = refl
four_of (a ∷ b ∷ c ∷ d ∷ x ∷ xs) e = absurd (omega arith)

-- Four levels of least error are those that `lowest_least` finds for the two directions and for chroma.
best_are : (t : BlockTable) (m : Three Measured) (levels : List ℕ) → length levels ≡ 4 → AreBest t m levels
    → levels ≡ lowest_least (error_at t m.y true) 63 ∷ lowest_least (error_at t m.y false) 63 ∷ lowest_least (error_of_both t m.u) 63 ∷ lowest_least (error_of_both t m.v) 63 ∷ []
best_are t m levels four h =
    four_of levels four
    ∙ (λ i. lowest_is (error_at t m.y true) (level_of levels 0) h.vertical i ∷ lowest_is (error_at t m.y false) (level_of levels 1) h.horizontal i
    ∷ lowest_is (error_of_both t m.u) (level_of levels 2) h.u i ∷ lowest_is (error_of_both t m.v) (level_of levels 3) h.v i ∷ [])

-- the levels of a frame, by the way they are chosen
by_choice : (p : Parameters) (t : BlockTable) (m : Three Measured) (levels : List ℕ) (b : Bool) → p.fast_deblock ≡ b → length levels ≡ 4 → AreLevels p t m levels
    → levels ≡ (if b then fast_levels p else lowest_least (error_at t m.y true) 63 ∷ lowest_least (error_at t m.y false) 63 ∷ lowest_least (error_of_both t m.u) 63 ∷ lowest_least (error_of_both t m.v) 63 ∷ [])
by_choice p t m levels true e four h = h.fast e
by_choice p t m levels false e four h = best_are t m levels four (h.best e)

-- Four levels that are chosen as AreLevels says are the levels of the specification.
pub levels_are : (p : Parameters) (blocks : List Block) (coded source : Three PlaneView) (t : BlockTable) (m : Three Measured) (levels : List ℕ)
    → t ≡ block_table p blocks → m ≡ record { y = measured_in p 0 coded.y source.y; u = measured_in p 1 coded.u source.u; v = measured_in p 2 coded.v source.v }
    → length levels ≡ 4 → AreLevels p t m levels → levels ≡ levels_of p blocks coded source
levels_are p blocks coded source t m levels table measured four h =
    by_choice p t m levels p.fast_deblock refl four h
    ∙ (λ i. if p.fast_deblock then fast_levels p else
    lowest_least (error_at (table i) (measured i).y true) 63 ∷ lowest_least (error_at (table i) (measured i).y false) 63
    ∷ lowest_least (error_of_both (table i) (measured i).u) 63 ∷ lowest_least (error_of_both (table i) (measured i).v) 63 ∷ [])

-- a list of four numbers that are each at most 63
four_low : (a b c d : ℕ) → a ≤ 63 → b ≤ 63 → c ≤ 63 → d ≤ 63 → All (λ n. n ≤ 63) (a ∷ b ∷ c ∷ d ∷ [])
four_low a b c d ha hb hc hd zero e l = ha
four_low a b c d ha hb hc hd (suc zero) e l = hb
four_low a b c d ha hb hc hd (suc (suc zero)) e l = hc
four_low a b c d ha hb hc hd (suc (suc (suc zero))) e l = hd
four_low a b c d ha hb hc hd (suc (suc (suc (suc n)))) e l = absurd (omega arith)

-- Planes of a frame.

-- planes with a sample in each direction are not empty
not_empty : (w h : ℕ) → 0 < w → 0 < h → ((w == 0) || (h == 0)) ≡ false
not_empty w h lw lh = grind (arith, nat_tests)

-- a side is the number n where the plane isn't empty
some_side : (b : Bool) (n m : ℕ) → b ≡ false → n ≡ m → (if b then 0 else n) ≡ m
some_side true n m e l = absurd (true≢false e)
some_side false n m e l = l

-- the luma plane of a frame has the layout of the frame
pub fits_y : (w h : ℕ) (sampling : ChromaSampling) → 1 ≤ w → 1 ≤ h → FitsFrame 0 w h (frame_layout w h sampling).y
fits_y w h sampling lw lh =
    let some = not_empty (rounded w) (rounded h) (omega arith) (omega arith) in
    record {
      decimated = record { x = omega arith; y = omega arith; luma_x = λ e. refl; luma_y = λ e. refl };
      wide = some_side (is_empty (frame_layout w h sampling).y) (rounded w / 2 ^ 0) (rounded w) some (omega arith);
      high = some_side (is_empty (frame_layout w h sampling).y) (rounded h / 2 ^ 0) (rounded h) some (omega arith);
    }

-- a chroma plane of a frame has the layout of the frame
pub fits_chroma : (pli w h : ℕ) (sampling : ChromaSampling) → 0 < pli → 1 ≤ w → 1 ≤ h → FitsFrame pli w h (frame_layout w h sampling).u
fits_chroma pli w h Cs420 some lw lh =
    let filled = not_empty (rounded w / 2 ^ 1) (rounded h / 2 ^ 1) (omega arith) (omega arith) in
    record {
      decimated = record { x = omega arith; y = omega arith; luma_x = λ e. absurd (omega arith); luma_y = λ e. absurd (omega arith) };
      wide = some_side (is_empty (frame_layout w h Cs420).u) (rounded w / 2 ^ 1) (rounded w / 2 ^ 1) filled refl;
      high = some_side (is_empty (frame_layout w h Cs420).u) (rounded h / 2 ^ 1) (rounded h / 2 ^ 1) filled refl;
    }
fits_chroma pli w h Cs422 some lw lh =
    let filled = not_empty (rounded w / 2 ^ 1) (rounded h / 2 ^ 0) (omega arith) (omega arith) in
    record {
      decimated = record { x = omega arith; y = omega arith; luma_x = λ e. absurd (omega arith); luma_y = λ e. absurd (omega arith) };
      wide = some_side (is_empty (frame_layout w h Cs422).u) (rounded w / 2 ^ 1) (rounded w / 2 ^ 1) filled refl;
      high = some_side (is_empty (frame_layout w h Cs422).u) (rounded h / 2 ^ 0) (rounded h / 2 ^ 0) filled refl;
    }
fits_chroma pli w h Cs444 some lw lh =
    let filled = not_empty (rounded w / 2 ^ 0) (rounded h / 2 ^ 0) (omega arith) (omega arith) in
    record {
      decimated = record { x = omega arith; y = omega arith; luma_x = λ e. refl; luma_y = λ e. refl };
      wide = some_side (is_empty (frame_layout w h Cs444).u) (rounded w / 2 ^ 0) (rounded w / 2 ^ 0) filled refl;
      high = some_side (is_empty (frame_layout w h Cs444).u) (rounded h / 2 ^ 0) (rounded h / 2 ^ 0) filled refl;
    }
fits_chroma pli w h Cs400 some lw lh = record {
  decimated = record { x = omega arith; y = omega arith; luma_x = λ e. refl; luma_y = λ e. refl };
  wide = refl;
  high = refl;
}

-- the luma plane of an input of a frame is a plane made for the frame's parameters
pub y_for : (p : Parameters) (f : Three PlaneView) → 1 ≤ p.width → 1 ≤ p.height → IsInputFor p f → IsPlaneFor p 0 f.y
y_for p f lw lh i = record {
  layout = subst (FitsFrame 0 p.width p.height) (ap (λ (t : Three PlaneConfig). t.y) (sym i.layout)) (fits_y p.width p.height p.sequence.chroma_sampling lw lh);
  range = i.y_range;
}

-- The U plane of an input of a frame is a plane made for the frame's parameters.
pub u_for : (p : Parameters) (f : Three PlaneView) → 1 ≤ p.width → 1 ≤ p.height → IsInputFor p f → IsPlaneFor p 1 f.u
u_for p f lw lh i = record {
  layout = subst (FitsFrame 1 p.width p.height) (ap (λ (t : Three PlaneConfig). t.u) (sym i.layout)) (fits_chroma 1 p.width p.height p.sequence.chroma_sampling (omega arith) lw lh);
  range = i.u_range;
}

-- The V plane of an input of a frame is a plane made for the frame's parameters.
pub v_for : (p : Parameters) (f : Three PlaneView) → 1 ≤ p.width → 1 ≤ p.height → IsInputFor p f → IsPlaneFor p 2 f.v
v_for p f lw lh i = record {
  layout = subst (FitsFrame 2 p.width p.height) (ap (λ (t : Three PlaneConfig). t.v) (sym i.layout)) (fits_chroma 2 p.width p.height p.sequence.chroma_sampling (omega arith) lw lh);
  range = i.v_range;
}

-- the bit depth of a frame is one of the profile
pub depth_is : (limit depth : ℕ) → FitsDepth limit depth → IsDepth depth
depth_is limit depth (inl eight) = inl eight.0
depth_is limit depth (inr more) = inr more.0

-- the sample type of a frame holds all samples of its depth
pub depth_fits : (limit depth : ℕ) → FitsDepth limit depth → 2 ^ depth ≤ limit
depth_fits limit depth (inl eight) = rw (eight.0, eight.1) (omega arith)
depth_fits limit depth (inr more) = elim more.0 [ inl ten ↦ rw (ten, more.1) (omega arith) | inr twelve ↦ rw (twelve, more.1) (omega arith) ]

module _ {X : Type 0} (number : X → ℤ) (w h bd pli : ℕ) where
  -- a region of a whole plane shows the plane's rounded part
  shows : (cfg : PlaneConfig) (plane : Plane X) (r : PlaneRegion X) → plane.cfg ≡ cfg → FitsFrame pli w h cfg → ShowsPlane plane r → ShowsRounded cfg w h r
  shows cfg plane r same fits shown =
      let wide = plane.wide in
      let high = plane.high in
      let width = ap (λ a. a.width) shown.area in
      let height = ap (λ a. a.height) shown.area in
      let columns = ap (λ (c : PlaneConfig). c.width) same in
      let rows = ap (λ (c : PlaneConfig). c.height) same in
      let w_fits = fits.wide in
      let h_fits = fits.high in
      record { wide = omega arith; high = omega arith }

  -- a region of a whole plane shows the plane's rounded part in depth
  shows_depth : (cfg : PlaneConfig) (plane : Plane X) (r : PlaneRegion X) → plane.cfg ≡ cfg → FitsFrame pli w h cfg → ShowsPlane plane r
      → IsInRange (2 ^ bd) (view_plane number plane) → ShowsDepth bd cfg w h number r
  shows_depth cfg plane r same fits shown range = record {
    each = λ x y lx ly.
        let columns = ap (λ (c : PlaneConfig). c.width) same in
        let rows = ap (λ (c : PlaneConfig). c.height) same in
        let w_fits = fits.wide in
        let h_fits = fits.high in
        let here = range x y (omega arith) (omega arith) in
        let o = origin_place plane.cfg in
        let numbers : numbers_seen number r ≡ drop o (map number plane.samples.items) = ap (map number) shown.samples ∙ sym (drop-map number o plane.samples.items) in
        let place : o + (0 + y * plane.cfg.stride + x) ≡ (plane.cfg.yorigin + y) * plane.cfg.stride + (plane.cfg.xorigin + x) =
        let split : (plane.cfg.yorigin + y) * plane.cfg.stride ≡ plane.cfg.yorigin * plane.cfg.stride + y * plane.cfg.stride = add-mul plane.cfg.yorigin y plane.cfg.stride in omega arith in
        let read : get_or (numbers_seen number r) (spot 0 (step_seen r) x y) (pos 0) ≡ at (map number plane.samples.items) plane.cfg.stride (plane.cfg.xorigin + x) (plane.cfg.yorigin + y) =
        (λ i. get_or (numbers i) (spot 0 (shown.step i) x y) (pos 0)) ∙ (get_or-drop o (map number plane.samples.items) (spot 0 plane.cfg.stride x y) (pos 0) ∙ ap (λ (k : ℕ). get_or (map number plane.samples.items) k (pos 0)) place) in
        subst (InDepth (2 ^ bd)) (sym read) here;
  }

  -- the errors of a plane of a coded frame and its source can be tallied
  pub can_tally : (plane source : Plane X) (r s : PlaneRegion X) → source.cfg ≡ plane.cfg → FitsFrame pli w h plane.cfg → ShowsPlane plane r → ShowsPlane source s
      → IsInRange (2 ^ bd) (view_plane number plane) → IsInRange (2 ^ bd) (view_plane number source) → CanTally number (frame_shape w h bd) pli r s
  can_tally plane source r s same fits shown shown_source range range_source =
      record {
        decimated = subst (IsDecimated pli) (sym shown.cfg) fits.decimated;
        rec_region = subst (λ (c : PlaneConfig). ShowsRounded c w h r) (sym shown.cfg) (shows plane.cfg plane r refl fits shown);
        src_region = subst (λ (c : PlaneConfig). ShowsRounded c w h s) (sym shown.cfg) (shows plane.cfg source s same fits shown_source);
        rec_range = subst (λ (c : PlaneConfig). ShowsDepth bd c w h number r) (sym shown.cfg) (shows_depth plane.cfg plane r refl fits shown range);
        src_range = subst (λ (c : PlaneConfig). ShowsDepth bd c w h number s) (sym shown.cfg) (shows_depth plane.cfg source s same fits shown_source range_source);
      }

  -- what is measured on two planes is what the specification compares
  pub measured_is : (p : Parameters) → p.width ≡ w → p.height ≡ h → p.sequence.bit_depth ≡ bd → (plane source : Plane X) (r s : PlaneRegion X) → ShowsPlane plane r → ShowsPlane source s
      → measured_plane number (frame_shape w h bd) pli r s ≡ measured_in p pli (view_plane number plane) (view_plane number source)
  measured_is p wide high deep plane source r s shown shown_source =
      let coded : numbers_seen number r ≡ from_first (view_plane number plane) = ap (map number) shown.samples ∙ sym (drop-map number (origin_place plane.cfg) plane.samples.items) in
      let begun : numbers_seen number s ≡ from_first (view_plane number source) = ap (map number) shown_source.samples ∙ sym (drop-map number (origin_place source.cfg) source.samples.items) in
      λ i. record {
        plane = frame_plane pli (shown.cfg i) (sym wide i) (sym high i);
        pictures = record { depth = sym deep i; coded = coded i; coded_step = shown.step i; source = begun i; source_step = shown_source.step i };
      }

-- a level is at most 63
clamped_low : (z : ℤ) → clamped_level z ≤ 63
unfolding clamped_level
clamped_low (pos n) = omega arith
clamped_low (negsuc n) = omega arith

-- Levels are at most 63, whether they are guessed or measured.
by_way : (p : Parameters) (t : BlockTable) (m : Three Measured) (levels : List ℕ) (b : Bool) → p.fast_deblock ≡ b → length levels ≡ 4 → AreLevels p t m levels → All (λ n. n ≤ 63) levels
by_way p t m levels true e four h =
    let low = clamped_low (fitted_level p.ac_quantizer p.sequence.bit_depth (is_key p.frame_type)) in
    let g = guessed_level p in
    subst (All (λ n. n ≤ 63)) (sym (h.fast e)) (four_low g g g g low low low low)
by_way p t m levels false e four h =
    let best = h.best e in
    let a = best.vertical.inside in
    let b = best.horizontal.inside in
    let c = best.u.inside in
    let d = best.v.inside in
    subst (All (λ n. n ≤ 63)) (sym (four_of levels four)) (four_low (get_or levels 0 0) (get_or levels 1 0) (get_or levels 2 0) (get_or levels 3 0) (omega arith) (omega arith) (omega arith) (omega arith))

-- The four levels that a frame may have are at most 63.
pub levels_low : (p : Parameters) (t : BlockTable) (m : Three Measured) (levels : List ℕ) → length levels ≡ 4 → AreLevels p t m levels → All (λ n. n ≤ 63) levels
levels_low p t m levels four h = by_way p t m levels p.fast_deblock refl four h
