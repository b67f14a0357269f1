use Rattle.std.proofs.Common.{◌≡◌, ◌≤◌, ◌<◌, refl, sym, ap, ◌∙◌, ℕ, List, Vec, Global, map, take, length, arith}
use Rattle.av1_frame.specs.Framing.{greatest, longest}
use Rattle.av1_frame.proofs.Lengths.{greatest_more, longest_more, longest_here, longest_before}
use Rattle.av1_frame.proofs.longest.longest_tile.Goals as goal
use Rattle.av1_frame.proofs.longest.longest_tile.Goals.{then-len-longest, else-len-longest}

pub loop-n-init : goal.loop-n-init
unfolding greatest longest
loop-n-init c = (refl, refl)

pub loop-n-preserved : goal.loop-n-preserved
loop-n-preserved c =
    let tiles = c.args.tiles.now in
    let n = c.loop-n.n in
    let tile = c.index-tiles-n.result in
    let items : Vec ℕ Global → List ℕ = λ v. v.items in
    let kept = c.loop-n.invariant in
    let most = greatest_more items tiles n tile c.loop-n-test.true c.index-tiles-n.is in
    let last = longest_more items tiles n tile c.loop-n-test.true c.index-tiles-n.is in
    let len = c.len.ensures in
    let before = greatest (map items (take n tiles)) in
    elim c.if-len-longest.branch [
      | then-len-longest w ↦
          let again = w.len-then-len-longest.ensures in
          let long = w.if-len-longest.true in
          let high : before ≤ length tile.items = let k = kept.1 in omega arith in (
            ap (λ r. r.tile) w.longest-is ∙ sym (last ∙ longest_here (length tile.items) before (longest (map items (take n tiles))) n high),
            ap (λ r. r.len) w.longest-is ∙ (omega arith),
          )
      | else-len-longest w ↦
          let short = w.if-len-longest.false in
          let low : length tile.items < before = let k = kept.1 in omega arith in (
            ap (λ r. r.tile) w.longest-is ∙ (kept.0 ∙ sym (last ∙ longest_before (length tile.items) before (longest (map items (take n tiles))) n low)),
            ap (λ r. r.len) w.longest-is ∙ (let k = kept.1 in omega arith),
          )
    ]
