-- How large units are, and how many of them a side has.
use Rattle.std.proofs.Common.{◌≡◌, ℕ, zero, suc, Bool, true, false, ◌+◌, ◌-◌, ◌*◌, ◌/◌, ◌^◌, ◌<◌, ◌≤◌, min, arith, refl, sym, ap, ◌∙◌}
use Rattle.std.specs.Prelude.{if◌then◌else◌, unwrap_or, ◌==◌, ◌&&◌, ◌||◌, not, nat_lt}
use Rattle.std.proofs.lemmas.Nat.{mul-le, pow_pos, div-add-mod'}
use Rattle.std.proofs.Math.Pow.{pow_mono}
use Rattle.std.proofs.lemmas.Bool.Decides.{nat_tests}
use Rattle.std.specs.Int.{w64, trailing_zeros}
use Rattle.av1_tiling.specs.Frames.{Parameters}
use Rattle.av1_plane.specs.declared.sampling.ChromaSampling.{ChromaSampling}
use Rattle.av1_plane.specs.declared.sampling.ChromaSampling.TheVariants.{Cs420, Cs422, Cs444, Cs400}
use Rattle.av1_plane.specs.declared.plane.PlaneConfig.{PlaneConfig}
use Rattle.av1_plane.specs.declared.three.Three.{Three}
use Rattle.av1_plane.specs.Layout.{rounded, chroma_layout, frame_layout}
use Rattle.av1_plane.specs.Sampling.{decimation}
use Rattle.av1_tiling.specs.Restoration.{Units}
use Rattle.av1_tiling.specs.declared.unit_sizes.UnitSizes.{UnitSizes}
use Rattle.av1_tiling.specs.UnitSizes.{unit_count, base_shift, chroma_shift, superblock_log2, shifts, large_sizes, small_sizes, wanted_sizes, is_420, is_stretched, kept_in_tiles, tile_sizes, unit_sizes}

-- the units of three planes
abbrev pub three : Units → Units → Units → Three Units
three y u v = record { y = y; u = u; v = v }

-- eight times a side of 32 samples or more is at least the largest unit
pub kept_same : (unit side z : ℕ) → unit ≤ 256 → 32 ≤ side → min unit (side * 2 ^ min z 3) ≡ min unit (side * 2 ^ z)
kept_same unit side z most least =
    let less : z ≤ 3 → min z 3 ≡ z = λ l. omega arith in
    let same : z ≤ 3 → min unit (side * 2 ^ min z 3) ≡ min unit (side * 2 ^ z) = λ l. ap (λ (k : ℕ). min unit (side * 2 ^ k)) (less l) in
    let three : 3 ≤ z → min z 3 ≡ 3 = λ l. omega arith in
    let far : 3 ≤ z → 256 ≤ side * 2 ^ z = λ l.
    let more : 2 ^ 3 ≤ 2 ^ z = pow_mono l in
    let all : 32 * 2 ^ 3 ≤ side * 2 ^ z = mul-le 32 (2 ^ 3) side (2 ^ z) least more in
    all in
    let cut : 3 ≤ z → min unit (side * 2 ^ min z 3) ≡ min unit (side * 2 ^ z) = λ l.
    let high : 256 ≤ side * 2 ^ z = far l in
    let eight : side * 2 ^ min z 3 ≡ side * 2 ^ 3 = ap (λ (k : ℕ). side * 2 ^ k) (three l) in
    let low : 256 ≤ side * 2 ^ min z 3 = omega arith in
    omega arith in
    grind (arith, nat_tests)

-- a side of at least one superblock is no smaller than 32 samples
pub kept_least : (side z : ℕ) → 32 ≤ side → 32 ≤ side * 2 ^ z
kept_least side z least =
    let some : 1 ≤ 2 ^ z = pow_pos z in
    let all : 32 * 1 ≤ side * 2 ^ z = mul-le 32 1 side (2 ^ z) least some in
    all

-- the units of a side before the last one end inside the side
pub count_fits : (unit side : ℕ) → 32 ≤ unit → 0 < side → (unit_count unit side - 1) * unit < side
count_fits unit side least some =
    let whole : (side + unit / 2) / unit * unit ≤ side + unit / 2 = omega (arith, div-add-mod' (side + unit / 2) unit) in
    let none : (side + unit / 2) / unit ≤ 1 → (unit_count unit side - 1) * unit ≡ 0 = λ l.
    let one : unit_count unit side - 1 ≡ 0 = omega arith in
    let nothing : 0 * unit ≡ 0 = omega arith in
    ap (λ (k : ℕ). k * unit) one ∙ nothing in
    let more : 1 < (side + unit / 2) / unit → (unit_count unit side - 1) * unit + unit ≡ (side + unit / 2) / unit * unit = λ l.
    let one : unit_count unit side - 1 ≡ (side + unit / 2) / unit - 1 = omega arith in
    let next : (side + unit / 2) / unit ≡ (side + unit / 2) / unit - 1 + 1 = omega arith in
    let wide : ((side + unit / 2) / unit - 1 + 1) * unit ≡ ((side + unit / 2) / unit - 1) * unit + unit = grind arith in
    ap (λ (k : ℕ). k * unit + unit) one ∙ sym (ap (λ (k : ℕ). k * unit) next ∙ wide) in
    grind (arith, nat_tests)

-- a row of prefix sums holds the last unit of a side
pub count_reaches : (unit side : ℕ) → 32 ≤ unit → unit ≤ 256 → 0 < side → side + 7 ≤ (unit_count unit side - 1) * unit + 392
count_reaches unit side least most some =
    let q : ℕ = (side + unit / 2) / unit in
    let below : side + unit / 2 < (side + unit / 2) / unit * unit + unit = omega (arith, div-add-mod' (side + unit / 2) unit) in
    let less : (side + unit / 2) / unit ≤ unit_count unit side = omega arith in
    let all : ((side + unit / 2) / unit) * unit ≤ unit_count unit side * unit = mul-le ((side + unit / 2) / unit) unit (unit_count unit side) unit less (omega arith) in
    let one : unit_count unit side ≡ unit_count unit side - 1 + 1 = omega arith in
    let wide : (unit_count unit side - 1 + 1) * unit ≡ (unit_count unit side - 1) * unit + unit = grind arith in
    let same : unit_count unit side * unit ≡ (unit_count unit side - 1) * unit + unit = ap (λ (k : ℕ). k * unit) one ∙ wide in
    omega arith

pub ruleset kept = (kept_same, kept_least)

-- the shifts of a frame's chroma planes
pub input_shifts : (p : Parameters) (f : Three PlaneConfig) → f ≡ frame_layout p.width p.height p.sequence.chroma_sampling → (f.u.xdec, f.u.ydec) ≡ shifts p
input_shifts p f h = ap (λ (t : Three PlaneConfig). (t.u.xdec, t.u.ydec)) h ∙ of_sampling p.sequence.chroma_sampling
  where
    of_sampling : (s : ChromaSampling) → ((chroma_layout (rounded p.width) (rounded p.height) (decimation s)).xdec, (chroma_layout (rounded p.width) (rounded p.height) (decimation s)).ydec) ≡ unwrap_or (decimation s) (0, 0)
    of_sampling Cs420 = refl
    of_sampling Cs422 = refl
    of_sampling Cs444 = refl
    of_sampling Cs400 = refl

-- equal units of three planes are equal together
pub three_units : (a b c a' b' c' : Units) → a ≡ a' → b ≡ b' → c ≡ c' → three a b c ≡ three a' b' c'
three_units a b c a' b' c' e f g = ap (λ (x : Units). three x b c) e ∙ ap (λ (x : Units). three a' x c) f ∙ ap (λ (x : Units). three a' b' x) g

-- A unit has 32 to 256 samples on a side.
pub record IsUnitSide (unit : ℕ) : Type 0 where
  pub least : 32 ≤ unit
  pub most : unit ≤ 256

-- a choice of 0, 1 and 2 is at most 2
of_three : (a b : Bool) → (if a then 0 else if b then 1 else 2) ≤ 2
of_three true b = omega arith
of_three false true = omega arith
of_three false false = omega arith

-- a choice of 0 and 1 is at most 1
of_two : (a : Bool) → (if a then 1 else 0) ≤ 1
of_two true = omega arith
of_two false = omega arith

-- the largest unit is halved twice at most
pub base_most : (p : Parameters) → base_shift p ≤ 2
base_most p = of_three (nat_lt 200 p.base_q_idx) (nat_lt 160 p.base_q_idx || p.sequence.use_128x128_superblock)

-- a chroma unit is at most once halved against a luma unit
pub half_most : (p : Parameters) → chroma_shift p ≤ 1
half_most p =
    let unit = 256 / 2 ^ base_shift p in
    of_two (base_shift p == 2 || (is_stretched p unit && not (is_stretched p (unit / 2))))

-- 256 halved at most twice is from 64 to 256
halved : (b : ℕ) → b ≤ 2 → (64 ≤ 256 / 2 ^ b) × (256 / 2 ^ b ≤ 256)
halved zero l = (omega arith, omega arith)
halved (suc zero) l = (omega arith, omega arith)
halved (suc (suc zero)) l = (omega arith, omega arith)
halved (suc (suc (suc b))) l = absurd (omega arith)

-- a unit halved at most once has a side that a unit may have
halved_once : (unit s : ℕ) → 64 ≤ unit → unit ≤ 256 → s ≤ 1 → IsUnitSide (unit / 2 ^ s)
halved_once unit zero least most l = record { least = omega arith; most = omega arith }
halved_once unit (suc zero) least most l = record { least = omega arith; most = omega arith }
halved_once unit (suc (suc s)) least most l = absurd (omega arith)

-- a choice of two sides that a unit may have is such a side
either : (b : Bool) (m n : ℕ) → IsUnitSide m → IsUnitSide n → IsUnitSide (if b then m else n)
either true m n f g = f
either false m n f g = g

-- luma's and chroma's units have sides that units may have
record AreUnitSides (s : UnitSizes) : Type 0 where
  luma : IsUnitSide s.luma
  chroma : IsUnitSide s.chroma

-- a choice of two pairs of sides that units may have is such a pair
either_sizes : (b : Bool) (m n : UnitSizes) → AreUnitSides m → AreUnitSides n → AreUnitSides (if b then m else n)
either_sizes true m n f g = f
either_sizes false m n f g = g

-- a superblock has 64 or 128 samples on a side
superblock_side : (p : Parameters) → (64 ≤ 2 ^ superblock_log2 p) × (2 ^ superblock_log2 p ≤ 128)
superblock_side p = by_test p.sequence.use_128x128_superblock
  where
    by_test : (b : Bool) → (64 ≤ 2 ^ (if b then 7 else 6)) × (2 ^ (if b then 7 else 6) ≤ 128)
    by_test true = (omega arith, omega arith)
    by_test false = (omega arith, omega arith)

-- the wanted sizes are sides that units may have
wanted_sides : (p : Parameters) → AreUnitSides (wanted_sizes p)
wanted_sides p =
    let l = halved (base_shift p) (base_most p) in
    let s = superblock_side p in
    either_sizes (p.sequence.enable_large_lru && p.sequence.enable_restoration) (large_sizes p) (small_sizes p)
    (record {
      luma = record { least = omega (arith, l.0); most = l.1 };
      chroma = either (is_420 (shifts p)) (256 / 2 ^ base_shift p / 2 ^ chroma_shift p) (256 / 2 ^ base_shift p) (halved_once (256 / 2 ^ base_shift p) (chroma_shift p) l.0 l.1 (half_most p)) (record { least = omega (arith, l.0); most = l.1 });
    })
    (record {
      luma = record { least = omega (arith, s.0); most = omega (arith, s.1) };
      chroma = either (is_420 (shifts p)) (2 ^ superblock_log2 p / 2) (2 ^ superblock_log2 p) (record { least = omega (arith, s.0); most = omega (arith, s.1) }) (record { least = omega (arith, s.0); most = omega (arith, s.1) });
    })

-- a unit kept to some superblocks has a side that a unit may have
kept_side : (unit side z : ℕ) → IsUnitSide unit → 32 ≤ side → IsUnitSide (min unit (side * 2 ^ z))
kept_side unit side z h least =
    let more : 32 ≤ side * 2 ^ z = kept_least side z least in
    record { least = omega (arith, h.least); most = omega (arith, h.most) }

-- a superblock has at least 32 samples a side in a chroma plane
decimated_side : (side d : ℕ) → 64 ≤ side → d ≤ 1 → 32 ≤ side / 2 ^ d
decimated_side side zero least l = omega arith
decimated_side side (suc zero) least l = omega arith
decimated_side side (suc (suc d)) least l = absurd (omega arith)

-- a unit kept to whole tiles has a side that a unit may have
kept_sides : (p : Parameters) (d : ℕ × ℕ) (unit : ℕ) → d.0 ≤ 1 → d.1 ≤ 1 → IsUnitSide unit → IsUnitSide (kept_in_tiles p d unit)
kept_sides p d unit l m h =
    let side = superblock_side p in
    let t = p.sequence.tiling in
    kept_side (min unit (2 ^ superblock_log2 p / 2 ^ d.0 * 2 ^ trailing_zeros w64 t.tile_width_sb)) (2 ^ superblock_log2 p / 2 ^ d.1) (trailing_zeros w64 t.tile_height_sb)
    (kept_side unit (2 ^ superblock_log2 p / 2 ^ d.0) (trailing_zeros w64 t.tile_width_sb) h (decimated_side (2 ^ superblock_log2 p) d.0 side.0 l)) (decimated_side (2 ^ superblock_log2 p) d.1 side.0 m)

-- chroma is halved at most once
pub shifts_small : (p : Parameters) → ((shifts p).0 ≤ 1) × ((shifts p).1 ≤ 1)
shifts_small p = of_sampling p.sequence.chroma_sampling
  where
    of_sampling : (s : ChromaSampling) → ((unwrap_or (decimation s) (0, 0)).0 ≤ 1) × ((unwrap_or (decimation s) (0, 0)).1 ≤ 1)
    of_sampling Cs420 = (omega arith, omega arith)
    of_sampling Cs422 = (omega arith, omega arith)
    of_sampling Cs444 = (omega arith, omega arith)
    of_sampling Cs400 = (omega arith, omega arith)

-- the lesser of two sides that units may have is such a side
lesser : (m n : ℕ) → IsUnitSide m → IsUnitSide n → IsUnitSide (min m n)
lesser m n f g = record { least = omega (arith, f.least, g.least); most = omega (arith, f.most, g.most) }

-- the sizes that the tiles allow are sides that units may have
tile_sides : (p : Parameters) → AreUnitSides (tile_sizes p)
tile_sides p =
    let wanted = wanted_sides p in
    let d = shifts_small p in
    either_sizes (nat_lt 1 p.sequence.tiling.cols || nat_lt 1 p.sequence.tiling.rows)
    (record { luma = kept_in_tiles p (0, 0) (wanted_sizes p).luma; chroma = kept_in_tiles p (shifts p) (wanted_sizes p).chroma }) (wanted_sizes p)
    (record {
      luma = kept_sides p (0, 0) (wanted_sizes p).luma (omega arith) (omega arith) wanted.luma;
      chroma = kept_sides p (shifts p) (wanted_sizes p).chroma d.0 d.1 wanted.chroma;
    })
    wanted

-- the sizes of a frame's units are sides that units may have
all_sides : (p : Parameters) → AreUnitSides (unit_sizes p)
unfolding unit_sizes
all_sides p =
    let kept = tile_sides p in
    either_sizes (is_420 (shifts p)) (tile_sizes p) (record { luma = min (tile_sizes p).luma (tile_sizes p).chroma; chroma = min (tile_sizes p).luma (tile_sizes p).chroma }) kept
    (record { luma = lesser (tile_sizes p).luma (tile_sizes p).chroma kept.luma kept.chroma; chroma = lesser (tile_sizes p).luma (tile_sizes p).chroma kept.luma kept.chroma })

-- the side of a luma unit is a side that a unit may have
pub luma_side : (p : Parameters) → IsUnitSide (unit_sizes p).luma
luma_side p = (all_sides p).luma

-- the side of a chroma unit is a side that a unit may have
pub chroma_side : (p : Parameters) → IsUnitSide (unit_sizes p).chroma
chroma_side p = (all_sides p).chroma
