-- Nothing is refused exactly where all results are valid.
use Rattle.std.proofs.Common.{◌≡◌, ℕ, zero, suc, ◌+◌, ◌^◌, ◌<◌, ◌≤◌, List, [], ◌∷◌, length, All, get_or, Bool, true, false, cond, not, true≢false, Option, Some, None, refl, sym, ap, ◌∙◌, arith}
use Rattle.std.specs.Prelude.{◌==◌, ◌↔◌, nat_le, is_none}
use Rattle.std.specs.List.{list_all, position, position_from}
use Rattle.std.proofs.lemmas.Bool.Decides.{nat_tests}
use Rattle.std.proofs.lemmas.Option.{none-some}
use Rattle.std.proofs.lemmas.List.Elements.{All-nil, All-cons, All-head, All-tail}
use Rattle.std.proofs.lemmas.List.Sums.{AllPass-from_list_all, list_all-from_AllPass}
use Rattle.std.proofs.lemmas.Iterator.Adapters.{position_from-zero}
use Rattle.av1_block.specs.declared.block.Block.{Block}
use Rattle.av1_block.specs.Rule.{IsBlock, is_block}
use Rattle.av1_block.proofs.Rules.{is_block-true, is_block_of}
use Rattle.av1_tiling.specs.Views.{View}
use Rattle.av1_tiling.specs.Frames.{Parameters}
use Rattle.av1_frame.specs.declared.group_error.GroupError.{GroupError}
use Rattle.av1_frame.specs.declared.group_error.GroupError.TheVariants.{Coder, EmptyTile, TileTooLarge, BadSample, BadBlock, BadUnit}
use Rattle.av1_frame.specs.Coding.{Meaning, refusal, first_of, decimations_of, are_in_depth, has_no_bytes, has_too_many_bytes, has_bad_sample, has_bad_block, has_bad_unit}
use Rattle.av1_frame.specs.Units.{are_units}
use Rattle.av1_frame.specs.Valid.{IsValid, IsValidTile}
use Rattle.av1_frame.proofs.Depths.{parts_of, of_parts}
use Rattle.av1_frame.proofs.UnitRule.{units_true, units_of}

-- a test without a position fails on the first element and on all others
one_more : {A : Type 0} (test : A → Bool) (n : ℕ) (x : A) (xs : List A) (rest : Option ℕ) (b : Bool) → test x ≡ b → cond b (Some n) rest ≡ None
    → (rest ≡ None → All (λ y. test y ≡ false) xs) → All (λ y. test y ≡ false) (x ∷ xs)
one_more test n x xs rest true t f each = absurd (none-some n (sym f))
one_more test n x xs rest false t f each = All-cons (λ y. test y ≡ false) x xs t (each f)

-- no element passes a test that has no position
from_none : {A : Type 0} (test : A → Bool) (n : ℕ) (xs : List A) → position_from test n xs ≡ None → All (λ x. test x ≡ false) xs
from_none test n [] e = All-nil (λ x. test x ≡ false)
from_none test n (x ∷ xs) e = one_more test n x xs (position_from test (n + 1) xs) (test x) refl e (λ f. from_none test (n + 1) xs f)

-- A test that no element passes has no position, wherever counting starts.
none_from : {A : Type 0} (test : A → Bool) (n : ℕ) (xs : List A) → All (λ x. test x ≡ false) xs → position_from test n xs ≡ None
none_from test n [] each = refl
none_from test n (x ∷ xs) each =
    ap (λ (b : Bool). cond b (Some n) (position_from test (n + 1) xs)) (All-head (λ y. test y ≡ false) x xs each)
    ∙ none_from test (n + 1) xs (All-tail (λ y. test y ≡ false) x xs each)

-- No element passes a test that has no position.
position-none : {A : Type 0} (test : A → Bool) (xs : List A) → position test xs ≡ None → All (λ x. test x ≡ false) xs
position-none test xs e = from_none test 0 xs (sym (position_from-zero test xs) ∙ e)

-- A test that no element passes has no position.
none-position : {A : Type 0} (test : A → Bool) (xs : List A) → All (λ x. test x ≡ false) xs → position test xs ≡ None
none-position test xs each = position_from-zero test xs ∙ none_from test 0 xs each

-- where there is no cause, neither the first cause nor a later one is met
first_none : (o : Option ℕ) (cause : ℕ → GroupError) (others : Option GroupError) → first_of o cause others ≡ None → (o ≡ None) × (others ≡ None)
first_none None cause others e = (refl, e)
first_none (Some tile) cause others e = absurd (none-some (cause tile) (sym e))

-- There is no cause where neither the first cause nor a later one is met.
none_first : (o : Option ℕ) (cause : ℕ → GroupError) (others : Option GroupError) → o ≡ None → others ≡ None → first_of o cause others ≡ None
none_first None cause others e f = f
none_first (Some tile) cause others e f = absurd (none-some tile (sym e))

-- A boolean whose negation is false is true.
turned : (b : Bool) → not b ≡ false → b ≡ true
turned true e = refl
turned false e = absurd (true≢false e)

-- The negation of a true boolean is false.
unturned : (b : Bool) → b ≡ true → not b ≡ false
unturned true e = refl
unturned false e = absurd (true≢false (sym e))

-- a result that meets no cause of refusal is valid
valid_of : (p : Parameters) (m : Meaning) → is_none m ≡ false → has_no_bytes m ≡ false → has_too_many_bytes m ≡ false → has_bad_sample p m ≡ false → has_bad_block p m ≡ false → has_bad_unit m ≡ false → IsValid p m
valid_of p None a b c d e f = absurd (true≢false a)
valid_of p (Some (bytes, v)) a b c d e f =
    let x = (decimations_of p.sequence.chroma_sampling).0 in
    let y = (decimations_of p.sequence.chroma_sampling).1 in
    record {
      some = some_of (length bytes) b;
      few = few_of (length bytes) c;
      samples = parts_of p v.ts.rec (turned (are_in_depth p v.ts.rec) d);
      blocks = λ k b l. is_block-true x y (get_or v.blocks.entries k b) (AllPass-from_list_all (is_block x y) v.blocks.entries (turned (list_all (is_block x y) v.blocks.entries) e) k b l);
      units = units_true v.ts.units (turned (are_units v.ts.units) f);
    }
  where
    some_of : (n : ℕ) → (n == 0) ≡ false → 1 ≤ n
    some_of n e = grind (arith, nat_tests)

    few_of : (n : ℕ) → nat_le (2 ^ 32) n ≡ false → n < 2 ^ 32
    few_of n e = grind (arith, nat_tests)

-- A valid result meets none of the causes of refusal.
tests_of : (p : Parameters) (m : Meaning) → IsValid p m → (is_none m ≡ false) × ((has_no_bytes m ≡ false) × ((has_too_many_bytes m ≡ false) × ((has_bad_sample p m ≡ false) × ((has_bad_block p m ≡ false) × (has_bad_unit m ≡ false)))))
tests_of p None valid = absurd valid
tests_of p (Some (bytes, v)) valid =
    let x = (decimations_of p.sequence.chroma_sampling).0 in
    let y = (decimations_of p.sequence.chroma_sampling).1 in (
      refl,
      (
        none_of (length bytes) valid.some,
        (many_of (length bytes) valid.few, (unturned (are_in_depth p v.ts.rec) (of_parts p v.ts.rec valid.samples), (unturned (list_all (is_block x y) v.blocks.entries) (list_all-from_AllPass (is_block x y) v.blocks.entries (λ k e l. is_block_of x y (get_or v.blocks.entries k e) (valid.blocks k e l))), unturned (are_units v.ts.units) (units_of v.ts.units valid.units)))),
      ),
    )
  where
    none_of : (n : ℕ) → 1 ≤ n → (n == 0) ≡ false
    none_of n l = grind (arith, nat_tests)

    many_of : (n : ℕ) → n < 2 ^ 32 → nat_le (2 ^ 32) n ≡ false
    many_of n l = grind (arith, nat_tests)

-- A group isn't refused exactly where all its results are valid.
pub accepts_valid : (p : Parameters) (ms : List Meaning) → (refusal p ms ≡ None) ↔ All (IsValid p) ms
accepts_valid p ms = (to, from)
  where
    units : Option GroupError
    units = first_of (position has_bad_unit ms) (λ tile. BadUnit tile) None

    blocks : Option GroupError
    blocks = first_of (position (has_bad_block p) ms) (λ tile. BadBlock tile) units

    samples : Option GroupError
    samples = first_of (position (has_bad_sample p) ms) (λ tile. BadSample tile) blocks

    large : Option GroupError
    large = first_of (position has_too_many_bytes ms) (λ tile. TileTooLarge tile) samples

    empty : Option GroupError
    empty = first_of (position has_no_bytes ms) (λ tile. EmptyTile tile) large

    to : refusal p ms ≡ None → All (IsValid p) ms
    to e =
        let a = first_none (position is_none ms) (λ tile. Coder tile) empty e in
        let b = first_none (position has_no_bytes ms) (λ tile. EmptyTile tile) large a.1 in
        let c = first_none (position has_too_many_bytes ms) (λ tile. TileTooLarge tile) samples b.1 in
        let s = first_none (position (has_bad_sample p) ms) (λ tile. BadSample tile) blocks c.1 in
        let d = first_none (position (has_bad_block p) ms) (λ tile. BadBlock tile) units s.1 in
        let u = first_none (position has_bad_unit ms) (λ tile. BadUnit tile) None d.1 in
        λ k m l. valid_of p (get_or ms k m) (position-none is_none ms a.0 k m l) (position-none has_no_bytes ms b.0 k m l) (position-none has_too_many_bytes ms c.0 k m l) (position-none (has_bad_sample p) ms s.0 k m l) (position-none (has_bad_block p) ms d.0 k m l) (position-none has_bad_unit ms u.0 k m l)

    from : All (IsValid p) ms → refusal p ms ≡ None
    from each =
        none_first (position is_none ms) (λ tile. Coder tile) empty (none-position is_none ms (λ k m l. (tests_of p (get_or ms k m) (each k m l)).0))
        (none_first (position has_no_bytes ms) (λ tile. EmptyTile tile) large (none-position has_no_bytes ms (λ k m l. (tests_of p (get_or ms k m) (each k m l)).1.0))
        (none_first (position has_too_many_bytes ms) (λ tile. TileTooLarge tile) samples (none-position has_too_many_bytes ms (λ k m l. (tests_of p (get_or ms k m) (each k m l)).1.1.0))
        (none_first (position (has_bad_sample p) ms) (λ tile. BadSample tile) blocks (none-position (has_bad_sample p) ms (λ k m l. (tests_of p (get_or ms k m) (each k m l)).1.1.1.0))
        (none_first (position (has_bad_block p) ms) (λ tile. BadBlock tile) units (none-position (has_bad_block p) ms (λ k m l. (tests_of p (get_or ms k m) (each k m l)).1.1.1.1.0))
        (none_first (position has_bad_unit ms) (λ tile. BadUnit tile) None (none-position has_bad_unit ms (λ k m l. (tests_of p (get_or ms k m) (each k m l)).1.1.1.1.1)) refl)))))
