use Rattle.std.proofs.Common.{◌≡◌, ◌<◌, map, length, get_or, take, sym, ap, subst, ◌∙◌, arith}
use Rattle.std.proofs.Math.ListN.{length-take}
use Rattle.std.proofs.lemmas.List.{get_or-map, length-map}
use Rattle.std.proofs.lemmas.Slice.Zip.{AllZip-long}
use Rattle.av1_tiling.specs.Puts.{PartLies}
use Rattle.av1_tiling.specs.Views.{view_cut}
use Rattle.av1_tiling.proofs.Placed.{zip_at}
use Rattle.av1_tiling.proofs.PutBack.{put_motion-none, put_motion-beyond, put_motion_step}
use Rattle.av1_tiling.proofs.putting.put_motion.Goals as goal

pub loop-i-init : goal.loop-i-init
loop-i-init c = sym (put_motion-none _)

pub bounds-tables-i : goal.bounds-tables-i
bounds-tables-i c =
    let long = AllZip-long _ _ _ c.requires in
    omega (arith, length-map c.args.cuts.now view_cut)

pub put_table-requires : goal.put_table-requires
put_table-requires c =
    let i = c.loop-i.i in
    let old = c.args.tables.now in
    let parts = map view_cut c.args.cuts.now in
    let t = c.index-tables-i.result in
    let cut = c.index-cuts-i.result in
    let long : length parts ≡ length old = AllZip-long _ _ _ c.requires in
    let below : i < length old = omega (arith, length-map c.args.cuts.now view_cut) in
    let at_table : get_or c.loop-i.tables i t ≡ get_or old i t =
    ap (λ xs. get_or xs i t) c.loop-i.invariant ∙ put_motion-beyond old (take i parts) i t (omega (arith, length-take i parts)) in
    let at_cut : view_cut cut ≡ get_or parts i (view_cut cut) = ap view_cut c.index-cuts-i.is ∙ sym (get_or-map view_cut c.args.cuts.now i cut (view_cut cut) c.loop-i-test.true) in
    subst (λ m. PartLies (length m.entries) (view_cut cut)) (sym at_table)
    (subst (PartLies (length (get_or old i t).entries)) (sym at_cut) (zip_at (λ m part. PartLies (length m.entries) part) old parts i t (view_cut cut) c.requires below))

pub loop-i-preserved : goal.loop-i-preserved
loop-i-preserved c =
    let i = c.loop-i.i in
    let old = c.args.tables.now in
    let parts = map view_cut c.args.cuts.now in
    let t = c.index-tables-i.result in
    let cut = c.index-cuts-i.result in
    let long : length parts ≡ length old = AllZip-long _ _ _ c.requires in
    let at_cut : view_cut cut ≡ get_or parts i (view_cut cut) = ap view_cut c.index-cuts-i.is ∙ sym (get_or-map view_cut c.args.cuts.now i cut (view_cut cut) c.loop-i-test.true) in
    put_motion_step old c.loop-i.tables parts i t c.put_table.new.table (view_cut cut)
    (omega (arith, length-map c.args.cuts.now view_cut)) long c.loop-i.invariant at_cut c.put_table.ensures
