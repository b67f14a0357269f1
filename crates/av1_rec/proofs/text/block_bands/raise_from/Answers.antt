use Rattle.std.proofs.Common.{◌+◌, ◌*◌, ◌/◌, ◌^◌, ◌<◌, max, length, slice_index_or, ap, ◌∙◌}
use Rattle.std.proofs.lemmas.Nat.{pow_pos}
use Rattle.av1_rec.proofs.BandFacts.{column_inside, place_inside}
use Rattle.av1_rec.proofs.text.block_bands.raise_from.Goals as goal

pub returns-clause-value : goal.returns-clause-value
returns-clause-value c = λ x y hx hy.
    let a = c.args in
    let k = 2 ^ a.wide in
    let m = 2 ^ a.tall in
    let column : (x + 1) / k < a.cols / k + 1 = column_inside x a.cols k (pow_pos a.wide) hx in
    let place : (y + 1) / m * (a.cols / k + 1) + (x + 1) / k < length a.bands.now = place_inside y a.rows m (a.cols / k + 1) ((x + 1) / k) _ (pow_pos a.tall) hy column c.requires.bands in
    c.raise.ensures.value x y hx hy ∙ ap (λ n. max (slice_index_or a.numbers.now (y * a.cols + x) 0) n) (c.mark_lines.ensures.value ((x + 1) / k) ((y + 1) / m) column place)
