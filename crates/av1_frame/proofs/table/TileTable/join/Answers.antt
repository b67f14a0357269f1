use Rattle.std.proofs.Common.{◌≡◌, ℕ, ◌<◌, ◌++◌, ◌∙◌, ap, subst, arith, List}
use Rattle.av1_frame.specs.Claims.{times, claims}
use Rattle.av1_frame.specs.AtHome.{AtHome}
use Rattle.av1_frame.specs.Tables.{about, claimed}
use Rattle.av1_frame.proofs.Counting.{times-append}
use Rattle.av1_frame.proofs.ClaimSteps.{joins_any, look_allowed, claims_joined}
use Rattle.av1_frame.proofs.table.TileTable.join.Goals as goal

pub join_seat-requires : goal.join_seat-requires
join_seat-requires g c = (
  c.requires.0.0,
  c.requires.1.0,
  c.args.other.empty,
  c.args.self.now.nonempty,
  joins_any (AtHome g.C.TileCoder.meaning) (about c.args.self.now) c.args.seat.now.seat.id c.args.other.seat.id c.args.seat.now.seat.me.0 c.args.other.seat.me.0 c.args.seat.now.idle c.args.other.idle,
)

pub load-requires : goal.load-requires
load-requires g c = (
  c.join_seat.ensures.0 ∙ c.requires.0.0,
  c.args.self.now.nonempty,
  look_allowed (AtHome g.C.TileCoder.meaning) (about c.args.self.now) c.args.self.now.table.shared.table_id.slots c.join_seat.new.seat.id 0 c.join_seat.new.seat.me,
)

pub returns-clause-apart : goal.returns-clause-apart
returns-clause-apart g c n =
    let both = claims_joined c.args.seat.now.seat.me.0 c.args.other.seat.me.0 c.args.seat.now.idle c.args.other.idle in
    let found = c.load.ensures.2.1 n in
    let same : claims c.join_seat.new.seat.me.0 ≡ claimed c.args.seat.now ++ claimed c.args.other = ap (λ m. claims m.0) c.join_seat.ensures.2 ∙ both in
    let h : times n (claimed c.args.seat.now ++ claimed c.args.other) < 2 = subst (λ (l : List ℕ). times n l < 2) same found in
    omega (arith, times-append n (claimed c.args.seat.now) (claimed c.args.other))
