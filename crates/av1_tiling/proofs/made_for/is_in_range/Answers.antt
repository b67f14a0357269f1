use Rattle.std.proofs.Common.{◌≡◌, ◌+◌, ◌*◌, List, All, length, map, take, drop, refl, sym, ap, ◌∙◌, subst, arith}
use Rattle.std.proofs.lemmas.Bool.{false≢true}
use Rattle.av1_plane.specs.Numbers.{InDepth}
use Rattle.av1_plane.proofs.Places.{row_end_bound}
use Rattle.av1_tiling.proofs.Decided.{run_has, has_run, row_inside, row_more, row_of}
use Rattle.av1_tiling.proofs.made_for.is_in_range.Goals as goal

pub run-requires : goal.run-requires
run-requires g c =
    let plane = c.args.plane.now in
    omega (arith, plane.wide, plane.high, plane.stored, c.deref.ensures.len, row_end_bound (plane.cfg.yorigin + c.loop-y.y) plane.cfg.stride plane.cfg.alloc_height (plane.cfg.stride * plane.cfg.alloc_height) (omega (arith, plane.high)) refl)

pub returns-then-not-are_below : goal.returns-then-not-are_below
returns-then-not-are_below g c =
    let number = g.T.Pixel.number in
    let plane = c.args.plane.now in
    let first = (plane.cfg.yorigin + c.loop-y.y) * plane.cfg.stride + plane.cfg.xorigin in
    let below = InDepth c.args.bound in (
      λ e. absurd (false≢true e),
      λ all.
          let row = row_of below (map number plane.samples.items) plane.cfg plane.cfg.height c.loop-y.y all c.loop-y-test.true in
          let passes = subst (λ (ys : List g.row.T.Denot). All below (map number ys)) (sym (c.run.ensures ∙ ap (λ (xs : List g.row.T.Denot). take plane.cfg.width (drop first xs)) c.deref.ensures.value)) (has_run number below plane.samples.items first plane.cfg.width row) in
          absurd (false≢true (sym c.if-not-are_below.true ∙ c.are_below.ensures.1 passes)),
    )

pub loop-y-preserved : goal.loop-y-preserved
loop-y-preserved g c =
    let number = g.T.Pixel.number in
    let plane = c.args.plane.now in
    let first = (plane.cfg.yorigin + c.loop-y.y) * plane.cfg.stride + plane.cfg.xorigin in
    let below = InDepth c.args.bound in
    let is : c.run.result.now ≡ take plane.cfg.width (drop first plane.samples.items) = c.run.ensures ∙ ap (λ (xs : List g.row.T.Denot). take plane.cfg.width (drop first xs)) c.deref.ensures.value in
    let inside = row_inside plane.cfg c.loop-y.y (length plane.samples.items) plane.wide plane.high c.loop-y-test.true plane.stored in
    row_more below (map number plane.samples.items) plane.cfg c.loop-y.y c.loop-y.invariant
    (run_has number below plane.samples.items first plane.cfg.width inside
    (subst (λ (ys : List g.row.T.Denot). All below (map number ys)) is (c.are_below.ensures.0 c.if-not-are_below.false)))
