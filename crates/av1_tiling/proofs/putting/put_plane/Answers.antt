use Rattle.std.proofs.Common.{◌≡◌, length, map, rules, sym, ◌∙◌, ap}
use Rattle.av1_block.proofs.Cuts.{map_with_cut}
use Rattle.av1_tiling.proofs.PutBack.{refilled_whole}
use Rattle.av1_tiling.proofs.putting.put_plane.Goals as goal

pub returns-clause-samples : goal.returns-clause-samples
returns-clause-samples g c =
    let old = c.args.plane.now.samples in
    let as_long : length old.items ≡ old.len = sym old.ok.0 in
    let long : length c.put_back.new.stored ≡ old.len = search rules in
    ap (map g.T.Pixel.number) (refilled_whole old.len old.items c.put_back.new.stored as_long long ∙ c.put_back.ensures)
    ∙ rw c.as_mut_slice.ensures.value (map_with_cut g.T.Pixel.number _ _ _ _ _ _ _)
