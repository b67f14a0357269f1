use Rattle.std.proofs.Common.{◌+◌, pos, get_or, rules, SFits, w32, ◌∙◌}
use Rattle.std.proofs.lemmas.Int.{to_z-of_z}
use Rattle.av1_deblock.proofs.Stores.{four_written}
use Rattle.av1_deblock.proofs.sample.write_four.Goals as goal

pub returns : goal.returns
returns g c =
    let ys = c.args.from.now in
    let i = c.args.first in
    let fits_a : SFits w32 (get_or ys i (pos 0)) = search rules in
    let fits_b : SFits w32 (get_or ys (i + 1) (pos 0)) = search rules in
    let fits_c : SFits w32 (get_or ys (i + 2) (pos 0)) = search rules in
    let fits_d : SFits w32 (get_or ys (i + 3) (pos 0)) = search rules in
    four_written g.T.Pixel.number c.args.to.now c.args.at ys i
    c.from_i32.result c.from_i32-2.result c.from_i32-3.result c.from_i32-4.result
    (c.from_i32.ensures ∙ to_z-of_z w32 (get_or ys i (pos 0)) fits_a)
    (c.from_i32-2.ensures ∙ to_z-of_z w32 (get_or ys (i + 1) (pos 0)) fits_b)
    (c.from_i32-3.ensures ∙ to_z-of_z w32 (get_or ys (i + 2) (pos 0)) fits_c)
    (c.from_i32-4.ensures ∙ to_z-of_z w32 (get_or ys (i + 3) (pos 0)) fits_d)
