-- One block of a part.
use Rattle.std.proofs.Common.{◌≡◌, ℕ, ◌+◌, ◌-◌, ◌*◌, ◌<◌, ◌≤◌, List, refl, sym, ◌∙◌, ap, arith, Bool, true, false}
use Rattle.std.specs.Prelude.{nat_lt, ◌==◌, ◌&&◌, ◌||◌}
use Rattle.std.proofs.Math.Nat.{mul-le-mul_left, mul-le-mul_right}
use Rattle.std.proofs.lemmas.Bool.Decides.{nat_tests}
use Rattle.av1_block.specs.declared.block.Block.{Block}
use Rattle.av1_cdef.specs.declared.settings.Settings.{Settings}
use Rattle.av1_cdef.specs.declared.part.Plan.{Plan}
use Rattle.av1_cdef.specs.declared.directions.CdefDirections.{CdefDirections}
use Rattle.av1_cdef.specs.Picture.{CdefPicture, sample_at, near, filtered_at, IsBlockOf}
use Rattle.av1_cdef.proofs.LawProofs.{still_near}
use Rattle.std.specs.Int.RustNames.{unsigned_abs}
use Rattle.av1_cdef.specs.Part.{copied_at, block_sample, part_sample, all_skipped, settings_by, table_direction, table_variance, sides_at}

-- a filter without strengths copies each sample
still_at : (p : CdefPicture) (s : Settings) (x y i j : ℕ) → (s.primary == 0 && s.secondary == 0) ≡ true → copied_at p x y i j ≡ filtered_at p s x y i j
unfolding copied_at filtered_at
still_at p s x y i j e =
    sym (still_near (near p (x + j) (y + i)) s (sample_at p (x + j) (y + i)) (grind (arith, nat_tests)) (grind (arith, nat_tests)))

-- a block that is skipped, or that has no strengths, is copied
pub sample_copied : (p : CdefPicture) (skip : Bool) (s : Settings) (x y i j : ℕ) → (skip || s.primary == 0 && s.secondary == 0) ≡ true → copied_at p x y i j ≡ block_sample p skip s x y i j
unfolding block_sample
sample_copied p true s x y i j e = refl
sample_copied p false s x y i j e = still_at p s x y i j e

-- a block that is neither skipped nor without strengths is filtered
pub sample_filtered : (p : CdefPicture) (skip : Bool) (s : Settings) (x y i j : ℕ) → (skip || s.primary == 0 && s.secondary == 0) ≡ false → filtered_at p s x y i j ≡ block_sample p skip s x y i j
unfolding block_sample
sample_filtered p true s x y i j e = absurd cc
sample_filtered p false s x y i j e = refl

-- a block with its settings is one of the part
pub part_is : (p : CdefPicture) (blocks : List Block) (step : ℕ) (plan : Plan) (dirs : CdefDirections) (tx ty w h left top u v i j : ℕ) (skip : Bool) (s : Settings) → skip ≡ all_skipped blocks step u v
    → s ≡ settings_by plan (table_direction dirs (u - left) (v - top)) (unsigned_abs (table_variance dirs (u - left) (v - top)))
    → block_sample p skip s (w * (tx + u)) (h * (ty + v)) i j ≡ part_sample p blocks step plan dirs tx ty w h left top u v i j
unfolding part_sample
part_is p blocks step plan dirs tx ty w h left top u v i j skip s e f = ap (λ b. block_sample p b s (w * (tx + u)) (h * (ty + v)) i j) e ∙ ap (λ t. block_sample p (all_skipped blocks step u v) t (w * (tx + u)) (h * (ty + v)) i j) f

-- The sides of an axis with n blocks of w samples.

-- a block with one before it has two samples before it
before_two : (w b : ℕ) → 4 ≤ w → nat_lt 0 b ≡ true → 2 ≤ w * b
before_two w b l e = let some : 1 ≤ b = grind (arith, nat_tests) in let m : w * 1 ≤ w * b = mul-le-mul_left w some in omega arith

-- the first block has none before it
before_none : (w b : ℕ) → nat_lt 0 b ≡ false → w * b ≡ 0
before_none w b e = let none : b ≡ 0 = grind (arith, nat_tests) in rw none (omega arith)

-- a block with one after it has two samples after it
after_two : (w b n size : ℕ) → 4 ≤ w → size ≡ w * n → nat_lt (b + 1) n ≡ true → w * b + w + 2 ≤ size
after_two w b n size l h e =
    let more : b + 2 ≤ n = grind (arith, nat_tests) in
    let m : w * (b + 2) ≤ w * n = mul-le-mul_left w more in
    let s : w * (b + 2) ≡ w * b + w + w = grind arith in
    omega arith

-- the last block has none after it
after_none : (w b n size : ℕ) → b < n → size ≡ w * n → nat_lt (b + 1) n ≡ false → w * b + w ≡ size
after_none w b n size l h e = let last : n ≡ b + 1 = grind (arith, nat_tests) in rw (h, last) (grind arith)

-- a block ends inside the plane
pub block_fits : (w b n size : ℕ) → b < n → size ≡ w * n → w * b + w ≤ size
block_fits w b n size l h = let m : w * (b + 1) ≤ w * n = mul-le-mul_left w (omega arith) in let s : w * (b + 1) ≡ w * b + w = grind arith in omega arith

-- a block of a plane and the sides on which the plane goes on
pub block_of : (p : CdefPicture) (w h bx by cols rows : ℕ) → 4 ≤ w → 4 ≤ h → p.width ≡ w * cols → p.height ≡ h * rows → bx < cols → by < rows → IsBlockOf p (w * bx) (h * by) w h (sides_at bx by cols rows)
block_of p w h bx by cols rows lw lh ew eh lx ly = record {
  left = before_two w bx lw;
  no_left = before_none w bx;
  right = after_two w bx cols p.width lw ew;
  no_right = after_none w bx cols p.width lx ew;
  top = before_two h by lh;
  no_top = before_none h by;
  bottom = after_two h by rows p.height lh eh;
  no_bottom = after_none h by rows p.height ly eh;
}

-- a stored row and n more lie in the samples
pub stored_room : (size row stride height n : ℕ) → size ≡ stride * height → row + n < height → row * stride + n * stride + stride ≤ size
stored_room size row stride height n e l =
    let rows : (row + n + 1) * stride ≤ height * stride = mul-le-mul_right stride (omega arith) in
    let split : (row + n + 1) * stride ≡ row * stride + n * stride + stride = grind arith in
    let same : stride * height ≡ height * stride = grind arith in
    omega arith
