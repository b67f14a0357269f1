use Rattle.std.proofs.Common.{◌≡◌, ℕ, length, map, replicate, sym, ◌∙◌, ap}
use Rattle.av1_frame.specs.Abouts.{about_of}
use Rattle.av1_frame.specs.declared.delivered.Place.TheVariants.{Start}
use Rattle.av1_frame.proofs.Gathers.{opens}
use Rattle.av1_frame.proofs.table.TileTable.new.Goals as goal

pub new-requires : goal.new-requires
new-requires g c =
    let long : c.len-count.result ≡ length c.of.result.value.items = c.len-count.ensures ∙ (c.args.views.ok.0 ∙ ap (λ v. length v.items) (sym c.of.ensures)) in
    opens g.C.TileCoder.meaning (about_of (c.of.result, c.of-2.result)) c.as_slice.result.now c.in_ok-slots.slots.items
    (c.as_slice.ensures.value ∙ (c.in_ok-words.ensures.items_if_clones_equal (λ y e. e) ∙ ap (λ (n : ℕ). replicate n 0) long))
    (c.in_ok-slots.ensures ∙ ap (λ v. map Start v.items) (sym c.of.ensures))
