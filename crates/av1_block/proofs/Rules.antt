-- The block rule and its test.
use Rattle.std.proofs.Common.{◌≡◌, ◌≢◌, ℕ, ◌<◌, true, refl, ap, arith, lit<}
use Rattle.std.proofs.lemmas.Bool.Decides.{nat_tests}
use Rattle.av1_block.specs.declared.block.Block.{Block}
use Rattle.av1_block.specs.declared.ref_type.RefType.{RefType}
use Rattle.av1_block.specs.declared.ref_type.RefType.TheVariants.{INTRA_FRAME, LAST_FRAME, LAST2_FRAME, LAST3_FRAME, GOLDEN_FRAME, BWDREF_FRAME, ALTREF2_FRAME, ALTREF_FRAME, NONE_FRAME}
use Rattle.av1_block.specs.Sides.{ref_number}
use Rattle.av1_block.specs.Block.{first_ref}
use Rattle.av1_block.specs.Rule.{IsBlock, is_block}

-- a reference that isn't none has a number below 8
pub ref_number_below : (r : RefType) → r ≢ NONE_FRAME → ref_number r < 8
ref_number_below INTRA_FRAME some = lit< tt
ref_number_below LAST_FRAME some = lit< tt
ref_number_below LAST2_FRAME some = lit< tt
ref_number_below LAST3_FRAME some = lit< tt
ref_number_below GOLDEN_FRAME some = lit< tt
ref_number_below BWDREF_FRAME some = lit< tt
ref_number_below ALTREF2_FRAME some = lit< tt
ref_number_below ALTREF_FRAME some = lit< tt
ref_number_below NONE_FRAME some = absurd (some refl)

-- A reference with a number below 8 is a reference frame.
pub not_none : (r : RefType) → ref_number r < 8 → r ≢ NONE_FRAME
not_none r below none = omega (arith, below, ap ref_number none)

-- the test finds the blocks that meet the rule
pub is_block-true : (xdec ydec : ℕ) (b : Block) → is_block xdec ydec b ≡ true → IsBlock xdec ydec b
is_block-true xdec ydec b met = record {
  wide = grind (arith, nat_tests);
  high = grind (arith, nat_tests);
  cdef = grind (arith, nat_tests);
  reference = not_none (first_ref b) (grind (arith, nat_tests));
  chroma = grind (arith, nat_tests);
}

-- A block with what the filters ask of it passes the test for it.
pub is_block_of : (xdec ydec : ℕ) (b : Block) → IsBlock xdec ydec b → is_block xdec ydec b ≡ true
is_block_of xdec ydec b rule =
    let below : ref_number (first_ref b) < 8 = ref_number_below (first_ref b) rule.reference in
    grind (arith, nat_tests, rule)
