-- The shape of a tile, by its rectangles.
use Rattle.std.proofs.Common.{◌≡◌, ℕ, ◌/◌, ◌^◌, Option, Some, None, refl, ap, ◌∙◌}
use Rattle.std.specs.Prelude.{IfSome}
use Rattle.av1_plane.specs.declared.tile_rect.TileRect.{TileRect}
use Rattle.av1_plane.specs.Sampling.{decimation}
use Rattle.av1_tiling.specs.declared.tiling_info.TilingInfo.{TilingInfo}
use Rattle.av1_tiling.specs.TileRects.{tile_luma, tile_blocks}
use Rattle.av1_rec.specs.declared.text.extent.Extent.{Extent}
use Rattle.av1_rec.specs.declared.text.extent.TileShape.{TileShape}
use Rattle.av1_rec.specs.declared.text.header.FrameFormat.{FrameFormat}
use Rattle.av1_rec.specs.Text.{tile_shape, no_samples, chroma_of}

-- the sides of a rectangle in a plane with these decimations
abbrev decimated : TileRect → ℕ × ℕ → Extent
decimated luma d = record { width = luma.width / 2 ^ d.0; height = luma.height / 2 ^ d.1 }

-- the sides of a tile in chroma are its sides in luma, decimated
chroma_is : (t : TilingInfo) (n : ℕ) (luma : TileRect) (d : Option (ℕ × ℕ)) (chroma : Extent) → luma ≡ tile_luma t n
    → (d ≡ None → chroma ≡ no_samples) → IfSome d (λ e. chroma ≡ decimated luma e) → chroma ≡ chroma_of t n d
chroma_is t n luma None chroma l none some = none refl
chroma_is t n luma (Some e) chroma l none some = some ∙ ap (λ (r : TileRect). decimated r e) l

-- the sides of a tile's rectangles are the tile's shape
pub shape_is : (f : FrameFormat) (t : TilingInfo) (n : ℕ) (luma blocks : TileRect) (chroma : Extent) → luma ≡ tile_luma t n → blocks ≡ tile_blocks t n
    → (decimation f.sampling ≡ None → chroma ≡ no_samples) → IfSome (decimation f.sampling) (λ e. chroma ≡ decimated luma e)
    → ◌≡◌ {A = TileShape} (record {
      luma = record { width = luma.width; height = luma.height };
      chroma = chroma;
      blocks = record { width = blocks.width; height = blocks.height };
    }) (tile_shape f t n)
unfolding tile_shape
shape_is f t n luma blocks chroma l b none some =
    let c = chroma_is t n luma (decimation f.sampling) chroma l none some in
    λ i. record {
      luma = record { width = (l i).width; height = (l i).height };
      chroma = c i;
      blocks = record { width = (b i).width; height = (b i).height };
    }
