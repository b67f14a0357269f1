use Rattle.std.proofs.Common.{rules, ◌≡◌, ◌-◌, length, arith, ap, ◌∙◌, ℕ, List, ◌++◌}
use Rattle.std.specs.Prelude.{vec_len}
use Rattle.av1_frame.specs.Framing.{little_endian}
use Rattle.av1_frame.proofs.Framings.{sized_more}
use Rattle.av1_frame.proofs.framing.extend_sized.Goals as goal

pub loop-tile-preserved : goal.loop-tile-preserved
loop-tile-preserved c =
    let tile = c.tile-item.result in
    let long : vec_len tile ≡ length tile.items = search rules in
    let size : c.deref.result.now ≡ little_endian c.args.size_bytes (length tile.items - 1) =
    c.deref.ensures.0 ∙ (c.le_bytes.ensures ∙ ap (λ (n : ℕ). little_endian c.args.size_bytes (n - 1)) (c.len.ensures ∙ long)) in
    let whole = c.deref-in-loop-tile.ensures.value in
    sized_more (λ t. t.items) c.args.size_bytes c.loop-tile.tile-index c.args.tiles.now tile c.args.group.now.items c.loop-tile.group.items c.extend_from_slice.new.self.items c.extend_from_slice-in-loop-tile.new.self.items c.deref.result.now
    c.loop-tile-test.true c.tile-item.is c.loop-tile.invariant c.in_ok-extend_from_slice.ensures.items size
    (c.in_ok-extend_from_slice-2.ensures.items ∙ ap (λ (xs : List ℕ). c.extend_from_slice.new.self.items ++ xs) whole)
