-- The sizes of a frame's units fit its tiles.
use Rattle.std.proofs.Common.{◌≡◌, ℕ, zero, suc, Bool, true, false, ◌-◌, ◌*◌, ◌/◌, ◌^◌, ◌<◌, ◌≤◌, inl, inr, min, sym, ap, ◌∙◌, refl, subst, arith}
use Rattle.std.specs.Prelude.{if◌then◌else◌, nat_lt, ◌||◌, ◌&&◌, unwrap_or}
use Rattle.std.specs.Int.{w64, trailing_zeros, div_ceil}
use Rattle.std.proofs.lemmas.Nat.{pow_pos}
use Rattle.std.proofs.Math.Pow.{pow_mono}
use Rattle.av1_plane.specs.Layout.{visible, rounded}
use Rattle.av1_plane.specs.Sampling.{decimation}
use Rattle.av1_plane.specs.declared.three.Three.{Three}
use Rattle.av1_plane.specs.declared.sampling.ChromaSampling.{ChromaSampling}
use Rattle.av1_plane.specs.declared.sampling.ChromaSampling.TheVariants.{Cs420, Cs422, Cs444, Cs400}
use Rattle.av1_tiling.specs.declared.unit_sizes.UnitSizes.{UnitSizes}
use Rattle.av1_tiling.specs.declared.tiling_info.TilingInfo.{TilingInfo}
use Rattle.av1_tiling.specs.Frames.{Parameters, IsFrame, AreTileUnits, is_422, superblock_side_log2}
use Rattle.av1_tiling.specs.FitsUnits.{FitsUnits}
use Rattle.av1_tiling.specs.Restoration.{Units, HasLayout}
use Rattle.av1_tiling.specs.TileRects.{superblock_columns, superblock_rows}
use Rattle.av1_tiling.specs.UnitSizes.{unit_sizes, unit_layout, unit_layouts, unit_log2, unit_count, shifts, superblock_log2, base_shift, chroma_shift, large_sizes, small_sizes, wanted_sizes, is_420, AreUnitsFor, start_units}
use Rattle.av1_tiling.specs.Grid.{round_up, superblock_log2 as grid_log2}
use Rattle.av1_tiling.proofs.GridFacts.{parts_hold}
use Rattle.av1_tiling.proofs.TilingFacts.{grid_is, grid-sides, grid-even}
use Rattle.av1_tiling.proofs.UnitAlign.{IsSide, min_is, kept_is, low_shift, log2_is, count_covered, zeros_align, even_has_zero}
use Rattle.av1_tiling.proofs.UnitSizeFacts.{base_most, half_most, shifts_small}
use Rattle.av1_tiling.proofs.LawProofs.{cols-pos, rows-pos, cuts_units}
use Rattle.av1_tiling.proofs.Blank.{blank_made}
use Rattle.av1_tiling.specs.Laws.{FramesCutUnits}

-- The code of sizes by numbers: a superblock's side, the shifts of chroma, whether there are several tiles, the sizes that
-- are wanted, and the zeros of a tile's sides.
abbrev kept_of : (side : ℕ) (d : ℕ × ℕ) (unit zw zh : ℕ) → ℕ
kept_of side d unit zw zh = min (min unit (side / 2 ^ d.0 * 2 ^ zw)) (side / 2 ^ d.1 * 2 ^ zh)

-- The sizes that the tiles allow, by numbers.
abbrev tiled_of : (side : ℕ) (d : ℕ × ℕ) (several : Bool) (wanted : UnitSizes) (zw zh : ℕ) → UnitSizes
tiled_of side d several wanted zw zh =
    if several then record { luma = kept_of side (0, 0) wanted.luma zw zh; chroma = kept_of side d wanted.chroma zw zh } else wanted

-- The sizes of a frame's units, by numbers.
abbrev final_of : (side : ℕ) (d : ℕ × ℕ) (several : Bool) (wanted : UnitSizes) (zw zh : ℕ) → UnitSizes
final_of side d several wanted zw zh =
    let kept = tiled_of side d several wanted zw zh in
    let least = min kept.luma kept.chroma in
    if is_420 d then kept else record { luma = least; chroma = least }

-- a unit of a plane of these shifts fits tiles whose sides have these numbers of trailing zeros
pub record FitsTiles (several : Bool) (zw zh : ℕ) (d : ℕ × ℕ) (unit : ℕ) : Type 0 where
  pub side : IsSide unit
  pub wide : 64 / 2 ^ d.0 ≤ unit
  pub high : 64 / 2 ^ d.1 ≤ unit
  pub kept_wide : several ≡ true → unit ≤ 64 / 2 ^ d.0 * 2 ^ zw
  pub kept_high : several ≡ true → unit ≤ 64 / 2 ^ d.1 * 2 ^ zh

-- the sizes of luma and of chroma units fit the tiles
record BothFit (several : Bool) (zw zh : ℕ) (d : ℕ × ℕ) (s : UnitSizes) : Type 0 where
  luma : FitsTiles several zw zh (0, 0) s.luma
  chroma : FitsTiles several zw zh d s.chroma

-- a wanted size is a side of a unit and at least `low`
record IsWanted (low unit : ℕ) : Type 0 where
  side : IsSide unit
  least : low ≤ unit

-- the sizes of units fit the tiles where chroma is halved both ways
fit_420 : (several : Bool) (wanted : UnitSizes) (zw zh : ℕ) → IsWanted 64 wanted.luma → IsWanted 32 wanted.chroma → BothFit several zw zh (1, 1) (final_of 64 (1, 1) several wanted zw zh)
fit_420 true wanted zw zh l c =
    let w = pow_pos zw in
    let h = pow_pos zh in
    let few = l.least in
    let low = c.least in
    record {
      luma = record {
        side = kept_is (min wanted.luma (64 * 2 ^ zw)) 0 zh (kept_is wanted.luma 0 zw l.side (omega arith)) (omega arith);
        wide = omega arith;
        high = omega arith;
        kept_wide = λ _. omega arith;
        kept_high = λ _. omega arith;
      };
      chroma = record {
        side = kept_is (min wanted.chroma (32 * 2 ^ zw)) 1 zh (kept_is wanted.chroma 1 zw c.side (omega arith)) (omega arith);
        wide = omega arith;
        high = omega arith;
        kept_wide = λ _. omega arith;
        kept_high = λ _. omega arith;
      };
    }
fit_420 false wanted zw zh l c =
    let few = l.least in
    let low = c.least in
    record {
      luma = record { side = l.side; wide = omega arith; high = omega arith; kept_wide = λ e. absurd (let f : false ≡ true = e in cc); kept_high = λ e. absurd (let f : false ≡ true = e in cc) };
      chroma = record { side = c.side; wide = omega arith; high = omega arith; kept_wide = λ e. absurd (let f : false ≡ true = e in cc); kept_high = λ e. absurd (let f : false ≡ true = e in cc) };
    }

-- the sizes of units fit the tiles at 4:2:2, where tiles have an even number of superblocks across
fit_422 : (several : Bool) (wanted : UnitSizes) (zw zh : ℕ) → 1 ≤ zw → IsWanted 64 wanted.luma → IsWanted 64 wanted.chroma → BothFit several zw zh (1, 0) (final_of 64 (1, 0) several wanted zw zh)
fit_422 true wanted zw zh even l c =
    let two : 2 ^ 1 ≤ 2 ^ zw = pow_mono even in
    let h = pow_pos zh in
    let few = l.least in
    let low = c.least in
    let one = kept_is (min wanted.luma (64 * 2 ^ zw)) 0 zh (kept_is wanted.luma 0 zw l.side (omega arith)) (omega arith) in
    let other = kept_is (min wanted.chroma (32 * 2 ^ zw)) 0 zh (kept_is wanted.chroma 1 zw c.side (omega arith)) (omega arith) in
    let side = min_is (min (min wanted.luma (64 * 2 ^ zw)) (64 * 2 ^ zh)) (min (min wanted.chroma (32 * 2 ^ zw)) (64 * 2 ^ zh)) one other in
    record {
      luma = record { side = side; wide = omega arith; high = omega arith; kept_wide = λ _. omega arith; kept_high = λ _. omega arith };
      chroma = record { side = side; wide = omega arith; high = omega arith; kept_wide = λ _. omega arith; kept_high = λ _. omega arith };
    }
fit_422 false wanted zw zh even l c =
    let few = l.least in
    let low = c.least in
    let side = min_is wanted.luma wanted.chroma l.side c.side in
    record {
      luma = record { side = side; wide = omega arith; high = omega arith; kept_wide = λ e. absurd (let f : false ≡ true = e in cc); kept_high = λ e. absurd (let f : false ≡ true = e in cc) };
      chroma = record { side = side; wide = omega arith; high = omega arith; kept_wide = λ e. absurd (let f : false ≡ true = e in cc); kept_high = λ e. absurd (let f : false ≡ true = e in cc) };
    }

-- the sizes of units fit the tiles where chroma isn't halved
fit_444 : (several : Bool) (wanted : UnitSizes) (zw zh : ℕ) → IsWanted 64 wanted.luma → IsWanted 64 wanted.chroma → BothFit several zw zh (0, 0) (final_of 64 (0, 0) several wanted zw zh)
fit_444 true wanted zw zh l c =
    let w = pow_pos zw in
    let h = pow_pos zh in
    let few = l.least in
    let low = c.least in
    let one = kept_is (min wanted.luma (64 * 2 ^ zw)) 0 zh (kept_is wanted.luma 0 zw l.side (omega arith)) (omega arith) in
    let other = kept_is (min wanted.chroma (64 * 2 ^ zw)) 0 zh (kept_is wanted.chroma 0 zw c.side (omega arith)) (omega arith) in
    let side = min_is (min (min wanted.luma (64 * 2 ^ zw)) (64 * 2 ^ zh)) (min (min wanted.chroma (64 * 2 ^ zw)) (64 * 2 ^ zh)) one other in
    record {
      luma = record { side = side; wide = omega arith; high = omega arith; kept_wide = λ _. omega arith; kept_high = λ _. omega arith };
      chroma = record { side = side; wide = omega arith; high = omega arith; kept_wide = λ _. omega arith; kept_high = λ _. omega arith };
    }
fit_444 false wanted zw zh l c =
    let few = l.least in
    let low = c.least in
    let side = min_is wanted.luma wanted.chroma l.side c.side in
    record {
      luma = record { side = side; wide = omega arith; high = omega arith; kept_wide = λ e. absurd (let f : false ≡ true = e in cc); kept_high = λ e. absurd (let f : false ≡ true = e in cc) };
      chroma = record { side = side; wide = omega arith; high = omega arith; kept_wide = λ e. absurd (let f : false ≡ true = e in cc); kept_high = λ e. absurd (let f : false ≡ true = e in cc) };
    }

-- What is wanted.

-- a choice of two wanted sizes is a wanted size
either_wanted : (b : Bool) (least m n : ℕ) → IsWanted least m → IsWanted least n → IsWanted least (if b then m else n)
either_wanted true least m n f g = f
either_wanted false least m n f g = g

-- 256 halved at most twice is a wanted size of at least 64
halved_twice : (b : ℕ) → b ≤ 2 → IsWanted 64 (256 / 2 ^ b)
halved_twice zero l = record { side = inr (inr (inr refl)); least = omega arith }
halved_twice (suc zero) l = record { side = inr (inr (inl refl)); least = omega arith }
halved_twice (suc (suc zero)) l = record { side = inr (inl refl); least = omega arith }
halved_twice (suc (suc (suc b))) l = absurd (omega arith)

-- 256 samples halved up to three times are a wanted size of at least 32
halved_again : (b s : ℕ) → b ≤ 2 → s ≤ 1 → IsWanted 32 (256 / 2 ^ b / 2 ^ s)
halved_again zero zero l m = record { side = inr (inr (inr refl)); least = omega arith }
halved_again zero (suc zero) l m = record { side = inr (inr (inl refl)); least = omega arith }
halved_again (suc zero) zero l m = record { side = inr (inr (inl refl)); least = omega arith }
halved_again (suc zero) (suc zero) l m = record { side = inr (inl refl); least = omega arith }
halved_again (suc (suc zero)) zero l m = record { side = inr (inl refl); least = omega arith }
halved_again (suc (suc zero)) (suc zero) l m = record { side = inl refl; least = omega arith }
halved_again (suc (suc (suc b))) s l m = absurd (omega arith)
halved_again b (suc (suc s)) l m = absurd (omega arith)

module _ (p : Parameters) (six : superblock_log2 p ≡ 6) where
  -- luma units are at least a superblock
  luma_wanted : IsWanted 64 (wanted_sizes p).luma
  luma_wanted = by_test (p.sequence.enable_large_lru && p.sequence.enable_restoration)
    where
      small : IsWanted 64 (2 ^ superblock_log2 p)
      small = subst (λ (k : ℕ). IsWanted 64 (2 ^ k)) (sym six) (record { side = inr (inl refl); least = omega arith })

      by_test : (b : Bool) → IsWanted 64 (if b then large_sizes p else small_sizes p).luma
      by_test true = halved_twice (base_shift p) (base_most p)
      by_test false = small

  -- the wanted size of chroma units is one of at least 64 where chroma isn't halved both ways
  chroma_wanted : is_420 (shifts p) ≡ false → IsWanted 64 (wanted_sizes p).chroma
  chroma_wanted e = by_test (p.sequence.enable_large_lru && p.sequence.enable_restoration)
    where
      small : IsWanted 64 (2 ^ superblock_log2 p)
      small = subst (λ (k : ℕ). IsWanted 64 (2 ^ k)) (sym six) (record { side = inr (inl refl); least = omega arith })

      by_test : (b : Bool) → IsWanted 64 (if b then large_sizes p else small_sizes p).chroma
      by_test true = rw e (halved_twice (base_shift p) (base_most p))
      by_test false = rw e small

  -- At 4:2:0 the wanted chroma size is at least half a superblock.
  half_wanted : is_420 (shifts p) ≡ true → IsWanted 32 (wanted_sizes p).chroma
  half_wanted e = by_test (p.sequence.enable_large_lru && p.sequence.enable_restoration)
    where
      small : IsWanted 32 (2 ^ superblock_log2 p / 2)
      small = subst (λ (k : ℕ). IsWanted 32 (2 ^ k / 2)) (sym six) (record { side = inl refl; least = omega arith })

      by_test : (b : Bool) → IsWanted 32 (if b then large_sizes p else small_sizes p).chroma
      by_test true = rw e (halved_again (base_shift p) (chroma_shift p) (base_most p) (half_most p))
      by_test false = rw e small

-- whether a frame has several tiles
abbrev has_several : TilingInfo → Bool
has_several t = nat_lt 1 t.cols || nat_lt 1 t.rows

module _ (p : Parameters) (six : superblock_log2 p ≡ 6) (even : is_422 p.sequence.chroma_sampling ≡ true → 1 ≤ trailing_zeros w64 p.sequence.tiling.tile_width_sb) where
  -- A unit of this side fits the tiles in a plane of these shifts.
  abbrev Fit : ℕ → ℕ × ℕ → Type 0
  Fit side d =
      let t = p.sequence.tiling in
      let zw = trailing_zeros w64 t.tile_width_sb in
      let zh = trailing_zeros w64 t.tile_height_sb in
      BothFit (has_several t) zw zh d (final_of side d (has_several t) (wanted_sizes p) zw zh)

  -- What fits superblocks of 64 samples fits the frame's superblocks.
  of_64 : (d : ℕ × ℕ) → Fit 64 d → Fit (2 ^ superblock_log2 p) d
  of_64 d f = subst (λ (k : ℕ). Fit (2 ^ k) d) (sym six) f

  -- The chroma size fits the tiles at each sampling.
  by_sampling : (s : ChromaSampling) → p.sequence.chroma_sampling ≡ s → Fit 64 (shifts p)
  by_sampling Cs420 e =
      let d : (1, 1) ≡ shifts p = sym (ap (λ (x : ChromaSampling). unwrap_or (decimation x) (0, 0)) e) in
      subst (Fit 64) d (fit_420 _ (wanted_sizes p) _ _ (luma_wanted p six) (half_wanted p six (sym (ap is_420 d))))
  by_sampling Cs422 e =
      let d : (1, 0) ≡ shifts p = sym (ap (λ (x : ChromaSampling). unwrap_or (decimation x) (0, 0)) e) in
      subst (Fit 64) d (fit_422 _ (wanted_sizes p) _ _ (even (ap is_422 e)) (luma_wanted p six) (chroma_wanted p six (sym (ap is_420 d))))
  by_sampling Cs444 e =
      let d : (0, 0) ≡ shifts p = sym (ap (λ (x : ChromaSampling). unwrap_or (decimation x) (0, 0)) e) in
      subst (Fit 64) d (fit_444 _ (wanted_sizes p) _ _ (luma_wanted p six) (chroma_wanted p six (sym (ap is_420 d))))
  by_sampling Cs400 e =
      let d : (0, 0) ≡ shifts p = sym (ap (λ (x : ChromaSampling). unwrap_or (decimation x) (0, 0)) e) in
      subst (Fit 64) d (fit_444 _ (wanted_sizes p) _ _ (luma_wanted p six) (chroma_wanted p six (sym (ap is_420 d))))

  -- the sizes of a frame's units fit its tiles
  sizes_fit : (let t = p.sequence.tiling in BothFit (has_several t) (trailing_zeros w64 t.tile_width_sb) (trailing_zeros w64 t.tile_height_sb) (shifts p) (unit_sizes p))
  unfolding unit_sizes
  sizes_fit = of_64 (shifts p) (by_sampling p.sequence.chroma_sampling refl)

-- Units in tiles.

-- along one side, units that fit the tiles lie in whole tiles
side_fits : (several : Bool) (z unit d tiles tile_sb side frame : ℕ) → IsSide unit → d ≤ 1 → 64 / 2 ^ d ≤ unit → (several ≡ true → unit ≤ 64 / 2 ^ d * 2 ^ z) → z ≡ trailing_zeros w64 tile_sb
    → (several ≡ false → tiles ≡ 1) → 0 < side → side ≤ div_ceil frame 64 * (64 / 2 ^ d)
    → FitsUnits (unit_log2 unit - (6 - d)) (unit_count unit side) tiles tile_sb (div_ceil frame 64)
side_fits true z unit d tiles tile_sb side frame p l least kept zeros one filled inside = record {
  aligned = inr (zeros_align tile_sb (unit_log2 unit - (6 - d)) (subst (λ (n : ℕ). unit_log2 unit - (6 - d) ≤ n) zeros (low_shift unit d z p l (kept refl))));
  covered = count_covered unit d side frame p l least filled inside;
}
side_fits false z unit d tiles tile_sb side frame p l least kept zeros one filled inside = record {
  aligned = inl (one refl);
  covered = count_covered unit d side frame p l least filled inside;
}

-- the visible side of a plane lies in the frame's superblocks
visible_inside : (w d : ℕ) → 1 ≤ w → d ≤ 1 → (0 < visible w d) × (visible w d ≤ div_ceil (rounded w) 64 * (64 / 2 ^ d))
visible_inside w zero some l =
    let held = (parts_hold (rounded w) 64 (omega arith)).0 in (omega arith, omega arith)
visible_inside w (suc zero) some l =
    let held = (parts_hold (rounded w) 64 (omega arith)).0 in (omega arith, omega arith)
visible_inside w (suc (suc d)) some l = absurd (omega arith)

-- A frame that doesn't have several tiles has one column and one row of them.
few_tiles : (cols rows : ℕ) → 0 < cols → 0 < rows → (nat_lt 1 cols || nat_lt 1 rows) ≡ false → (cols ≡ 1) × (rows ≡ 1)
few_tiles cols rows c r e = (grind (arith, e), grind (arith, e))

-- what a plane's units rest on: its shifts, the sizes of the frame, and a tiling of superblocks of 64
pub record PlaneIn (p : Parameters) (t : TilingInfo) (d : ℕ × ℕ) (unit : ℕ) : Type 0 where
  pub six : superblock_log2 p ≡ 6
  pub fits : FitsTiles (has_several t) (trailing_zeros w64 t.tile_width_sb) (trailing_zeros w64 t.tile_height_sb) d unit
  pub x : d.0 ≤ 1
  pub y : d.1 ≤ 1
  pub wide : 1 ≤ p.width
  pub high : 1 ≤ p.height
  pub columns : superblock_columns t ≡ div_ceil (rounded p.width) 64
  pub rows : superblock_rows t ≡ div_ceil (rounded p.height) 64
  pub some_cols : 0 < t.cols
  pub some_rows : 0 < t.rows

-- Units with the layout of a plane lie in whole tiles.
plane_units : (p : Parameters) (t : TilingInfo) (d : ℕ × ℕ) (unit : ℕ) (u : Units) → PlaneIn p t d unit → HasLayout (unit_layout p unit d) u → AreTileUnits t u
plane_units p t d unit u h layout =
    let log = log2_is unit h.fits.side in
    let most = log.most in
    let across : u.cfg.sb_h_shift ≡ unit_log2 unit - (6 - d.0) = ap (λ c. c.sb_h_shift) layout.layout ∙ ap (λ (k : ℕ). unit_log2 unit - (k - d.0)) h.six in
    let down : u.cfg.sb_v_shift ≡ unit_log2 unit - (6 - d.1) = ap (λ c. c.sb_v_shift) layout.layout ∙ ap (λ (k : ℕ). unit_log2 unit - (k - d.1)) h.six in
    let few = few_tiles t.cols t.rows h.some_cols h.some_rows in
    let w = visible_inside p.width d.0 h.wide h.x in
    let v = visible_inside p.height d.1 h.high h.y in
    let columns = side_fits (has_several t) _ unit d.0 t.cols t.tile_width_sb (visible p.width d.0) (rounded p.width) h.fits.side h.x h.fits.wide h.fits.kept_wide refl (λ e. (few e).0) w.0 w.1 in
    let lines = side_fits (has_several t) _ unit d.1 t.rows t.tile_height_sb (visible p.height d.1) (rounded p.height) h.fits.side h.y h.fits.high h.fits.kept_high refl (λ e. (few e).1) v.0 v.1 in
    record {
      units = record {
        whole = layout.entries ∙ (λ i. sym layout.cols i * sym layout.rows i);
        across = omega (arith, across);
        down = omega (arith, down);
      };
      across = subst (λ (n : ℕ). FitsUnits n u.cols t.cols t.tile_width_sb (superblock_columns t)) (sym across)
          (subst (λ (n : ℕ). FitsUnits (unit_log2 unit - (6 - d.0)) n t.cols t.tile_width_sb (superblock_columns t)) (sym layout.cols)
          (subst (FitsUnits (unit_log2 unit - (6 - d.0)) (unit_count unit (visible p.width d.0)) t.cols t.tile_width_sb) (sym h.columns) columns));
      down = subst (λ (n : ℕ). FitsUnits n u.rows t.rows t.tile_height_sb (superblock_rows t)) (sym down)
          (subst (λ (n : ℕ). FitsUnits (unit_log2 unit - (6 - d.1)) n t.rows t.tile_height_sb (superblock_rows t)) (sym layout.rows)
          (subst (FitsUnits (unit_log2 unit - (6 - d.1)) (unit_count unit (visible p.height d.1)) t.rows t.tile_height_sb) (sym h.rows) lines));
    }

-- a side in whole blocks of 8, by either rule
whole_side : (n : ℕ) → round_up n 8 ≡ rounded n
whole_side n = omega arith

-- the units of each plane of a frame lie in whole tiles
pub record TileUnits (t : TilingInfo) (s : Three Units) : Type 0 where
  pub y : AreTileUnits t s.y
  pub u : AreTileUnits t s.u
  pub v : AreTileUnits t s.v

-- The units of a frame lie in whole tiles, in each plane.
pub frame_units : (limit : ℕ) (p : Parameters) (s : Three Units) → IsFrame limit p → AreUnitsFor p s → TileUnits p.sequence.tiling s
frame_units limit p s frame units =
    let t = p.sequence.tiling in
    let from = frame.tiling in
    let chosen : superblock_log2 p ≡ 6 = ap (λ (b : Bool). if b then 7 else 6) frame.superblock in
    let sides = grid-sides (superblock_side_log2 p) p.width p.height from.0 from.1 from.2 from.3 (is_422 p.sequence.chroma_sampling) t from.4 in
    let facts = grid_is (superblock_side_log2 p) p.width p.height from.0 from.1 from.2 from.3 (is_422 p.sequence.chroma_sampling) t from.4 in
    let six : t.sb_size_log2 ≡ 6 = sides.2 ∙ ap (λ (b : Bool). grid_log2 b) frame.superblock in
    let even = λ (e : is_422 p.sequence.chroma_sampling ≡ true). even_has_zero t.tile_width_sb (grid-even (superblock_side_log2 p) p.width p.height from.0 from.1 from.2 from.3 (is_422 p.sequence.chroma_sampling) t from.4 e) in
    let fits = sizes_fit p chosen even in
    let width : t.frame_width ≡ rounded p.width = sides.0 ∙ whole_side p.width in
    let height : t.frame_height ≡ rounded p.height = sides.1 ∙ whole_side p.height in
    let columns : superblock_columns t ≡ div_ceil (rounded p.width) 64 = λ i. div_ceil (width i) (2 ^ six i) in
    let rows : superblock_rows t ≡ div_ceil (rounded p.height) 64 = λ i. div_ceil (height i) (2 ^ six i) in
    let small = shifts_small p in
    let cols = cols-pos t facts in
    let lines = rows-pos t facts in
    let at = λ (d : ℕ × ℕ) (unit : ℕ) (f : FitsTiles (has_several t) (trailing_zeros w64 t.tile_width_sb) (trailing_zeros w64 t.tile_height_sb) d unit) (x : d.0 ≤ 1) (y : d.1 ≤ 1).
    let made : PlaneIn p t d unit = record { six = chosen; fits = f; x = x; y = y; wide = frame.width.0; high = frame.height.0; columns = columns; rows = rows; some_cols = cols; some_rows = lines } in made in
    record {
      y = plane_units p t (0, 0) (unit_sizes p).luma s.y (at (0, 0) (unit_sizes p).luma fits.luma (omega arith) (omega arith)) units.y;
      u = plane_units p t (shifts p) (unit_sizes p).chroma s.u (at (shifts p) (unit_sizes p).chroma fits.chroma small.0 small.1) units.u;
      v = plane_units p t (shifts p) (unit_sizes p).chroma s.v (at (shifts p) (unit_sizes p).chroma fits.chroma small.0 small.1) units.v;
    }

-- each unit of a frame lies in one tile
pub frames_cut : FramesCutUnits
frames_cut limit p frame =
    let t = p.sequence.tiling in
    let from = frame.tiling in
    let facts = grid_is (superblock_side_log2 p) p.width p.height from.0 from.1 from.2 from.3 (is_422 p.sequence.chroma_sampling) t from.4 in
    let layouts = unit_layouts p in
    let units = frame_units limit p (start_units p) frame (record { y = blank_made layouts.y; u = blank_made layouts.u; v = blank_made layouts.v }) in
    record {
      y = cuts_units t facts layouts.y.sb_h_shift layouts.y.sb_v_shift layouts.y.cols layouts.y.rows units.y.across units.y.down;
      u = cuts_units t facts layouts.u.sb_h_shift layouts.u.sb_v_shift layouts.u.cols layouts.u.rows units.u.across units.u.down;
      v = cuts_units t facts layouts.v.sb_h_shift layouts.v.sb_v_shift layouts.v.cols layouts.v.rows units.v.across units.v.down;
    }
