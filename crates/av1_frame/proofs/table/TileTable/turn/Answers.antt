use Rattle.std.proofs.Common.{◌≡◌, ℕ, ◌<◌, ◌∙◌, ap, subst, sym, refl}
use Rattle.av1_frame.specs.AtHome.{AtHome}
use Rattle.av1_frame.specs.Tables.{about}
use Rattle.av1_frame.proofs.ClaimSteps.{claims_me, finishes_me, at_by}
use Rattle.av1_frame.proofs.Deliveries.{done_at, read_first, still_has, worked, same_start}
use Rattle.av1_frame.specs.Claims.{taking}
use Rattle.av1_tiling.specs.Views.{View}
use mathlib.Core.Option.{some}
use Rattle.av1_frame.proofs.table.TileTable.turn.Goals as goal

pub fetch_or-found-requires : goal.fetch_or-found-requires
fetch_or-found-requires g c =
    let inside : c.args.tile < c.args.self.now.table.shared.table_id.slots = subst (λ (n : ℕ). c.args.tile < n) c.args.self.now.sized c.requires.tile in
    (c.requires.seat.0, c.requires.tile, claims_me (AtHome g.C.TileCoder.meaning) (about c.args.self.now) c.args.self.now.table.shared.table_id.slots c.args.seat.now.seat.id c.args.tile c.args.seat.now.seat.me c.args.seat.now.idle c.args.seat.now.empty inside)

pub fetch_or-requires : goal.fetch_or-requires
fetch_or-requires g c =
    let t = c.args.self.now in
    let seat = c.args.seat.now.seat in
    let told = c.fetch_or-found.ensures.2.0 c.if-found-ne0.false in
    let after = told.1.2 in
    let inside : c.args.tile < t.table.shared.table_id.slots = subst (λ (n : ℕ). c.args.tile < n) t.sized c.requires.tile in
    let at = at_by (AtHome g.C.TileCoder.meaning) (about t) seat.me.0 c.args.tile told.1.0 c.requires.seat.1 told.1.1 in
    let read = read_first c.args.tile c.fetch_or-found.new.seat.me (taking seat.me.0 c.args.tile) told.1.0 c.exchange-place.result seat.me.1 after c.exchange-place.ensures.2 in
    let start = at.start refl in
    let same : start.0 ≡ c.in-Start.view = same_start start.0 c.in-Start.view (sym start.1 ∙ (sym read ∙ c.in-Start.is)) in
    let done = done_at g.C.TileCoder.meaning (about t) c.args.tile t.coder.now c.in-Start.view c.code-coded.new.ctx c.code-coded.result t.same_coder (start.2 ∙ ap (λ (v : View). some v) same)
    c.code-coded.ensures.coded c.code-coded.ensures.shape c.code-coded.ensures.refused in (
      c.exchange-spare.ensures.0 ∙ (c.exchange-place.ensures.0 ∙ (c.fetch_or-found.ensures.0 ∙ c.requires.seat.0)),
      c.requires.tile,
      finishes_me (AtHome g.C.TileCoder.meaning) (about t) t.table.shared.table_id.slots c.exchange-spare.new.seat.id c.args.tile c.exchange-spare.new.seat.me seat.me.0 _
          (worked c.args.tile seat.me c.fetch_or-found.new.seat.me c.exchange-place.new.seat.me c.exchange-spare.new.seat.me (taking seat.me.0 c.args.tile) told.1.0 _ _ c.args.seat.now.empty after c.exchange-place.ensures.3 c.exchange-spare.ensures.3)
          c.args.seat.now.idle inside c.requires.seat.1 done,
    )

pub exchange-spare-requires : goal.exchange-spare-requires
exchange-spare-requires g c = (c.exchange-place.ensures.0 ∙ (c.fetch_or-found.ensures.0 ∙ c.requires.seat.0), (_, still_has c.args.tile c.exchange-place.new.seat.me c.fetch_or-found.new.seat.me _ c.exchange-place.ensures.3))
