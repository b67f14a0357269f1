use Rattle.std.proofs.Common.{◌≡◌, ℕ, ◌+◌, ◌<◌, [], length, map, get_or}
use Rattle.av1_plane.specs.Layout.{at}
use Rattle.av1_rec.specs.Picture.{picture_sample}
use Rattle.av1_rec.specs.Lines.{numbers_of}
use Rattle.av1_rec.proofs.frame.picture.write_picture.Given as goal

-- The first y rows of the picture stand in their places.
abbrev pub invariant-loop-y : goal.invariant-loop-y
invariant-loop-y g l =
    (x y : ℕ) → y < l.y → x < length (get_or (numbers_of g.T.Pixel.number l.rows) y []) → at (map g.T.Pixel.number l.samples) l.stride (l.left + x) (l.top + y) ≡ picture_sample (numbers_of g.T.Pixel.number l.rows) x y
