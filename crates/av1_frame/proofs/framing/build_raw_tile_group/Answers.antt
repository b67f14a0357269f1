use Rattle.std.proofs.Common.{◌≡◌, ◌<◌, ◌≤◌, arith, ap, ◌∙◌, sym, refl, List, [], ◌∷◌, ℕ, ◌++◌, map, length, true, false}
use Rattle.std.specs.Prelude.{◌==◌}
use Rattle.std.specs.List.{flat_map}
use Rattle.std.proofs.lemmas.Bool.Decides.{nat_tests}
use Rattle.av1_frame.specs.Framing.{with_size}
use Rattle.av1_frame.proofs.Framings.{framed_is, filled_front, flags, flags_of}
use Rattle.av1_frame.proofs.framing.build_raw_tile_group.Goals as goal
use Rattle.av1_frame.proofs.framing.build_raw_tile_group.Goals.{then-tile_count-gt1+in_ok-push, else-tile_count-gt1}

-- a number of at least 1 is not 0
several : (n : ℕ) → 1 ≤ n → (n == 0) ≡ false
several n l = grind (arith, nat_tests)

-- a number that is 0 tests as 0
no_other : (n : ℕ) → n ≡ 0 → (n == 0) ≡ true
no_other n e = grind (arith, nat_tests)

pub extend_sized-requires-clause-filled : goal.extend_sized-requires-clause-filled
extend_sized-requires-clause-filled c = filled_front (λ t. t.items) c.args.raw_tiles.now c.in-Some.others.now c.in-Some.last.now c.in-Some.ensures.cases.0 c.requires.framable.filled

pub returns : goal.returns
returns c =
    let others = c.in-Some.others.now in
    let count = c.tile_count.ensures in
    let all = c.requires.tiles in
    let one_more = c.in-Some.ensures.cases.1 in
    let some = λ (l : 1 < c.tile_count.result). several (length others) (omega arith) in
    let none = λ (l : c.tile_count.result ≤ 1). no_other (length others) (omega arith) in
    let begun : c.if-tile_count-gt1.group.items ≡ flags others = elim c.if-tile_count-gt1.branch [
      | then-tile_count-gt1+in_ok-push w ↦
          ap (λ v. v.items) w.group-is ∙ (w.in_ok-push.ensures.items ∙ (ap (λ (xs : List ℕ). xs ++ 0 ∷ []) c.new-group.ensures.items ∙ flags_of others false (some w.if-tile_count-gt1.true)))
      | else-tile_count-gt1 w ↦
          ap (λ v. v.items) w.group-is ∙ (c.new-group.ensures.items ∙ flags_of others true (none w.if-tile_count-gt1.false))
    ] in
    let last = c.deref.ensures.value in
    framed_is (λ t. t.items) c.args.max_tile_size_bytes c.args.raw_tiles.now others c.in-Some.last.now c.extend_from_slice.new.self.items c.in-Some.ensures.cases.0
    (c.in_ok-extend_from_slice.ensures.items ∙ ((λ i. (c.in_ok-extend_sized.ensures i) ++ last i)
    ∙ ap (λ (xs : List ℕ). (xs ++ flat_map (with_size c.args.max_tile_size_bytes) (map (λ t. t.items) others)) ++ c.in-Some.last.now.items) begun))
