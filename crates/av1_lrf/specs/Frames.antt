-- A plane and a frame, of the code's types, that are restored.
use Rattle.std.specs.Prelude.{ℕ, ℤ, ◌^◌, ◌<◌, ◌≤◌, ◌≡◌, Bool}
use Rattle.av1_plane.specs.Layout.{visible}
use Rattle.av1_plane.specs.Planes.{plane_numbers}
use Rattle.av1_plane.specs.declared.plane.Plane.{Plane}
use Rattle.av1_plane.specs.declared.frame.Frame.{Frame}
use Rattle.av1_plane.specs.declared.three.Three.{Three}
use Rattle.av1_tiling.specs.Restoration.{Units}
use Rattle.av1_lrf.specs.Rows.{picture_of, HasStripePicture}
use Rattle.av1_lrf.specs.Restore.{PlaneSettings, IsRestored}
use Rattle.av1_lrf.specs.Units.{FitPicture}

-- a plane p of a frame of these sides can be restored, d being the deblocked one
pub record CanRestore {X : Type 0} (number : X → ℤ) (bd pitch w h : ℕ) (u : Units) (d p : Plane X) : Type 0 where
  pub xdec : p.cfg.xdec ≤ 1
  pub ydec : p.cfg.ydec ≤ 1
  pub units : FitPicture u (visible w p.cfg.xdec) pitch
  pub enhanced : HasStripePicture number (2 ^ bd) (visible w p.cfg.xdec) (visible h p.cfg.ydec) p
  pub deblocked : HasStripePicture number (2 ^ bd) (visible w p.cfg.xdec) (visible h p.cfg.ydec) d

-- how a plane p of a frame is restored
abbrev pub settings_in : {X : Type 0} → Bool → ℕ → Units → Plane X → PlaneSettings
settings_in cdef bd u p = record { units = u; cdef = cdef; bit_depth = bd; ydec = p.cfg.ydec }

-- q is the plane p restored, d being the deblocked one
pub record IsRestoredPlane {X : Type 0} (number : X → ℤ) (cdef : Bool) (bd w h : ℕ) (u : Units) (d p q : Plane X) : Type 0 where
  pub cfg : q.cfg ≡ p.cfg
  pub samples : IsRestored (settings_in cdef bd u p) (picture_of number (visible w p.cfg.xdec) (visible h p.cfg.ydec) d) (picture_of number (visible w p.cfg.xdec) (visible h p.cfg.ydec) p) (plane_numbers number q)

-- the first `planes` planes of f can be restored
pub record CanRestoreFrame {X : Type 0} (number : X → ℤ) (bd pitch w h planes : ℕ) (s : Three Units) (d f : Frame X) : Type 0 where
  pub y : CanRestore number bd pitch w h s.y d.planes.y f.planes.y
  pub u : 1 < planes → CanRestore number bd pitch w h s.u d.planes.u f.planes.u
  pub v : 1 < planes → CanRestore number bd pitch w h s.v d.planes.v f.planes.v

-- the first `planes` planes of g are f's, restored; the others are f's
pub record IsRestoredFrame {X : Type 0} (number : X → ℤ) (cdef : Bool) (bd w h planes : ℕ) (s : Three Units) (d f g : Frame X) : Type 0 where
  pub y : IsRestoredPlane number cdef bd w h s.y d.planes.y f.planes.y g.planes.y
  pub u : 1 < planes → IsRestoredPlane number cdef bd w h s.u d.planes.u f.planes.u g.planes.u
  pub v : 1 < planes → IsRestoredPlane number cdef bd w h s.v d.planes.v f.planes.v g.planes.v
  pub same_u : planes ≤ 1 → g.planes.u ≡ f.planes.u
  pub same_v : planes ≤ 1 → g.planes.v ≡ f.planes.v
