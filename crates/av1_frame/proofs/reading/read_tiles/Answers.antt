use Rattle.std.proofs.Common.{◌≡◌, ◌≢◌, ◌-◌, ◌+◌, arith, ap, ◌∙◌, sym, map, take, drop, List, [], ◌∷◌, ℕ, ◌++◌, length}
use Rattle.std.specs.Prelude.{option_map, Some}
use Rattle.std.proofs.lemmas.Bool.Decides.{nat_tests}
use Rattle.std.proofs.lemmas.List.{map-append}
use Rattle.av1_frame.specs.Framing.{parsed, next_size}
use Rattle.av1_frame.proofs.Framings.{read_more, read_short, read_last, read_none}
use Rattle.av1_frame.proofs.reading.read_tiles.Goals as goal

pub returns-in_default-clause-none : goal.returns-in_default-clause-none
returns-in_default-clause-none c =
    c.loop.invariant ∙ read_short c.args.size_bytes c.args.tiles c.loop.counter (map (λ t. t.items) c.loop.list.items) c.loop.rest.now c.loop-test.true c.in_default.ensures.none

pub loop-preserved : goal.loop-preserved
loop-preserved c =
    let so_far = map (λ t. t.items) c.loop.list.items in
    let tile = take (next_size c.args.size_bytes c.loop.rest.now) (drop c.args.size_bytes c.loop.rest.now) in
    let copied : c.in_ok-from_slice.field-0.items ≡ tile = c.in_ok-from_slice.ensures.items ∙ c.in-Some.ensures.tile in
    let longer : so_far ++ tile ∷ [] ≡ map (λ t. t.items) c.push.new.self.items =
    ap (λ (t : List ℕ). so_far ++ t ∷ []) (sym copied)
    ∙ (sym (map-append (λ t. t.items) c.loop.list.items (c.in_ok-from_slice.field-0 ∷ [])) ∙ ap (λ ts. map (λ t. t.items) ts) (sym c.in_ok-push.ensures.items)) in
    c.loop.invariant
    ∙ (read_more c.args.size_bytes c.args.tiles c.loop.counter so_far c.loop.rest.now c.loop-test.true c.in-Some.ensures.room
    ∙ (λ i. option_map (λ more. longer i ++ more) (parsed c.args.size_bytes (c.args.tiles - (c.loop.counter + 1)) (sym c.in-Some.ensures.rest i))))

pub returns-then-is_empty-clause-none : goal.returns-then-is_empty-clause-none
returns-then-is_empty-clause-none c =
    let test = c.if-is_empty.true in
    let is = c.is_empty.ensures in
    c.loop.invariant ∙ read_none c.args.size_bytes c.args.tiles c.loop.counter (map (λ t. t.items) c.loop.list.items) c.loop.rest.now c.loop-test.false (grind (arith, nat_tests))

pub returns-clause-some : goal.returns-clause-some
returns-clause-some c =
    let test = c.if-is_empty.false in
    let is = c.is_empty.ensures in
    let some : length c.loop.rest.now ≢ 0 = grind (arith, nat_tests) in
    let so_far = map (λ t. t.items) c.loop.list.items in
    let longer : so_far ++ c.loop.rest.now ∷ [] ≡ map (λ t. t.items) c.push-2.new.self.items =
    ap (λ (t : List ℕ). so_far ++ t ∷ []) (sym c.in_ok-from_slice-2.ensures.items)
    ∙ (sym (map-append (λ t. t.items) c.loop.list.items (c.in_ok-from_slice-2.field-0 ∷ [])) ∙ ap (λ ts. map (λ t. t.items) ts) (sym c.in_ok-push-2.ensures.items)) in
    c.loop.invariant ∙ (read_last c.args.size_bytes c.args.tiles c.loop.counter so_far c.loop.rest.now c.loop-test.false some ∙ (λ i. Some (longer i)))
