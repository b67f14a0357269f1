-- A frame that holds a picture. The program pads the source: each stored sample is the picture's nearest one, as
-- prediction reads a reference (AV1 specification, section 7.11.3.4).
use Rattle.std.specs.Prelude.{◌≡◌, ℕ, ◌-◌, ◌*◌, ◌/◌, ◌%◌, ℤ, pos, List, [], All, true}
use Rattle.std.specs.List.{slice_index_or}
use Rattle.av1_plane.specs.declared.plane.PlaneConfig.{PlaneConfig}
use Rattle.av1_plane.specs.declared.three.Three.{Three}
use Rattle.av1_plane.specs.Layout.{frame_layout, nearest, visible}
use Rattle.av1_plane.specs.Numbers.{InDepth}
use Rattle.av1_plane.specs.Sampling.{decimation}
use Rattle.av1_tiling.specs.Views.{PlaneView}
use Rattle.av1_rec.specs.declared.text.extent.Extent.{Extent}
use Rattle.av1_rec.specs.declared.text.header.FrameFormat.{FrameFormat}
use Rattle.av1_rec.specs.BlockTable.{first_values}
use Rattle.av1_rec.specs.Recorded.{have_sides}
use Rattle.av1_rec.specs.Text.{luma_picture, chroma_picture}

-- the sample at column x of row y, or 0 past the end
abbrev pub picture_sample : List (List ℤ) → ℕ → ℕ → ℤ
picture_sample rows x y = slice_index_or (slice_index_or rows y []) x (pos 0)

-- the picture's sample that is the nearest to a stored place
abbrev pub nearest_sample : PlaneConfig → ℕ → ℕ → List (List ℤ) → ℕ → ℕ → ℤ
nearest_sample cfg width height rows x y =
    picture_sample rows (nearest cfg.xorigin width x - cfg.xorigin) (nearest cfg.yorigin height y - cfg.yorigin)

-- a plane of this layout that holds the picture of a frame of these sides
abbrev pub picture_plane : PlaneConfig → ℕ → ℕ → List (List ℤ) → PlaneView
picture_plane cfg w h rows = record {
  cfg = cfg;
  samples = first_values (λ k. nearest_sample cfg (visible w cfg.xdec) (visible h cfg.ydec) rows (k % cfg.stride) (k / cfg.stride)) (cfg.stride * cfg.alloc_height);
}

-- a frame of this format that holds these rows of each plane
unfoldable pub source_frame : FrameFormat → Three (List (List ℤ)) → Three PlaneView
source_frame f s =
    let layout = frame_layout f.width f.height f.sampling in
    record {
      y = picture_plane layout.y f.width f.height s.y;
      u = picture_plane layout.u f.width f.height s.u;
      v = picture_plane layout.v f.width f.height s.v;
    }

-- rows have these sides
abbrev pub AreRowsOf : Extent → List (List ℤ) → Type 0
AreRowsOf sides rows = have_sides (sides.width, sides.height) rows ≡ true

-- the rows of each plane have the sides of the picture in it
pub record HasPictureRows (f : FrameFormat) (s : Three (List (List ℤ))) : Type 0 where
  pub y : AreRowsOf (luma_picture f) s.y
  pub u : AreRowsOf (chroma_picture f (decimation f.sampling)) s.u
  pub v : AreRowsOf (chroma_picture f (decimation f.sampling)) s.v

-- the numbers of all rows are from 0, below a bound
abbrev pub AreBelow : ℕ → List (List ℤ) → Type 0
AreBelow bound rows = All (All (InDepth bound)) rows

-- the numbers of the rows of each plane are from 0, below a bound
pub record IsPictureBelow (bound : ℕ) (s : Three (List (List ℤ))) : Type 0 where
  pub y : AreBelow bound s.y
  pub u : AreBelow bound s.u
  pub v : AreBelow bound s.v
