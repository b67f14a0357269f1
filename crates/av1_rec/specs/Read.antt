-- What is known of a text that was read to its end.
use Rattle.std.specs.Prelude.{◌≡◌, ◌^◌, pos, Ok}
use Rattle.av1_tiling.specs.Frames.{FitsDepth}
use Rattle.av1_rec.specs.declared.text.FrameText.{FrameText}
use Rattle.av1_rec.specs.declared.text.FrameText.TheVariants.{Bytes, Words}
use Rattle.av1_rec.specs.Header.{IsHeader}
use Rattle.av1_rec.specs.Picture.{HasPictureRows, IsPictureBelow}
use Rattle.av1_rec.specs.Text.{Said, tiling, said}

-- a text's numbers are within their bounds, its frame has the tiling, and its source has the picture's
-- sides and depth
pub record IsRead (s : Said) : Type 0 where
  pub header : IsHeader s.header
  pub tiling : tiling s.header ≡ Ok s.tiling
  pub sides : HasPictureRows s.header.format s.source
  pub depth : IsPictureBelow (2 ^ s.header.format.depth) s.source

-- a text's numbers and source are as they should be, and its samples have the type of the frame's depth
abbrev pub IsReadText : FrameText → Type 0
IsReadText (Bytes t) = IsRead (said pos t) × FitsDepth 256 t.header.format.depth
IsReadText (Words t) = IsRead (said pos t) × FitsDepth 65536 t.header.format.depth
