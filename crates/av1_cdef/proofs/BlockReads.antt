-- A block read from a plane.
use Rattle.std.proofs.Common.{◌≡◌, ℕ, ℤ, pos, negsuc, ◌+◌, ◌*◌, ◌/◌, ◌%◌, ◌^◌, ◌<◌, ◌≤◌, List, length, get_or, set, All, length-set, refl, sym, ◌∙◌, subst, arith, inl, inr}
use Rattle.std.specs.Int.RustNames.{unsigned_abs}
use Rattle.std.proofs.lemmas.Int.{ints}
use Rattle.std.proofs.lemmas.Nat.{div_below, pow_pos}
use Rattle.std.proofs.lemmas.Bool.{cases_eq}
use Rattle.std.proofs.lemmas.List.{get_or-set_other, get_or_default, ext_get_or}
use Rattle.std.proofs.lemmas.Grind.{get_or-set_at}
use Rattle.av1_plane.specs.Numbers.{InDepth}
use Rattle.av1_cdef.specs.Direction.{block_of_picture, IsDeepBlock}
use Rattle.av1_cdef.proofs.Lines.{length-tabulated, get_or-tabulated}

-- the sample at entry k of a block
abbrev entry : List ℤ → ℕ → ℕ → ℕ → ℕ → ℕ
entry xs start step shift k = unsigned_abs (get_or xs (start + k / 8 * step + k % 8) (pos 0)) / 2 ^ shift

-- the first k entries are read
pub record IsRead (xs : List ℤ) (start step shift k : ℕ) (block : List ℕ) : Type 0 where
  pub long : length block ≡ 64
  pub each : (m : ℕ) → m < k → get_or block m 0 ≡ entry xs start step shift m

-- at first no sample is read
pub read_none : (xs : List ℤ) (start step shift : ℕ) (block : List ℕ) → length block ≡ 64 → IsRead xs start step shift (8 * 0) block
read_none xs start step shift block l = record { long = l; each = λ m h. absurd (omega arith) }

-- past the end of a row the next one begins
pub read_row : (xs : List ℤ) (start step shift i : ℕ) (block : List ℕ) → IsRead xs start step shift (8 * i + 8) block → IsRead xs start step shift (8 * (i + 1)) block
read_row xs start step shift i block h = record { long = h.long; each = λ m l. h.each m (omega arith) }

-- one sample more of a block is read
pub read_more : (xs : List ℤ) (start step shift i j v : ℕ) (block : List ℕ) → i < 8 → j < 8 → v ≡ unsigned_abs (get_or xs (start + i * step + j) (pos 0)) / 2 ^ shift → IsRead xs start step shift (8 * i + j) block → IsRead xs start step shift (8 * i + (j + 1)) (set block (8 * i + j) v)
read_more xs start step shift i j v block li lj e h = record {
  long = length-set block (8 * i + j) v ∙ h.long;
  each = λ m l. elim (cases_eq m (8 * i + j)) [
    | inl same ↦
        let row : (8 * i + j) / 8 ≡ i = omega arith in
        let column : (8 * i + j) % 8 ≡ j = omega arith in
        let long = h.long in
        rw same (get_or-set_at block (8 * i + j) (8 * i + j) v 0 refl (omega arith) ∙ e ∙ (rw (row, column) refl))
    | inr other ↦ get_or-set_other block (8 * i + j) m v 0 (λ f. other (omega arith)) ∙ h.each m (omega arith)
  ];
}

-- a list with all 64 samples read is the block
pub read_all : (xs : List ℤ) (start step shift : ℕ) (block : List ℕ) → IsRead xs start step shift (8 * 8) block → block ≡ block_of_picture xs start step shift
read_all xs start step shift block h =
    let size = length-tabulated 64 (entry xs start step shift) in
    ext_get_or 0 block (block_of_picture xs start step shift) (h.long ∙ sym size)
    (λ k l. h.each k (let long = h.long in omega arith) ∙ sym (get_or-tabulated 64 (entry xs start step shift) k (let long = h.long in omega arith)))

-- the samples of a block at 8 bits are bytes
pub block_bytes : (xs : List ℤ) (start step shift : ℕ) → IsDeepBlock (256 * 2 ^ shift) xs start step → All (λ p. p ≤ 255) (block_of_picture xs start step shift)
block_bytes xs start step shift h k d l =
    let size = length-tabulated 64 (entry xs start step shift) in
    let in_block : k < 64 = omega arith in
    subst (λ p. p ≤ 255) (sym (get_or-tabulated 64 (entry xs start step shift) k in_block) ∙ get_or_default (block_of_picture xs start step shift) k 0 d l)
    (byte (get_or xs (start + k / 8 * step + k % 8) (pos 0)) (h.each (k / 8) (k % 8) (omega arith) (omega arith)))
  where
    byte : (v : ℤ) → InDepth (256 * 2 ^ shift) v → unsigned_abs v / 2 ^ shift ≤ 255
    byte (pos n) e = let m : n < 256 * 2 ^ shift = grind (arith, ints) in let below : n / 2 ^ shift < 256 = div_below n (2 ^ shift) 256 (pow_pos shift) m in omega arith
    byte (negsuc n) e = absurd (grind (arith, ints))

pub ruleset reads = (read_none, read_row, read_all)
