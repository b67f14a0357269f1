-- A frame that holds a picture whose samples are below a bound has all its samples below the bound.
use Rattle.std.proofs.Common.{ℕ, ℤ, pos, ◌+◌, ◌*◌, ◌/◌, ◌%◌, ◌<◌, List, [], length, get_or, inl, inr, All, sym, subst, arith}
use Rattle.std.proofs.lemmas.List.{get_or_past}
use Rattle.std.proofs.lemmas.Bool.{cases_lt}
use Rattle.av1_plane.specs.declared.plane.PlaneConfig.{PlaneConfig}
use Rattle.av1_plane.specs.declared.three.Three.{Three}
use Rattle.av1_plane.specs.Layout.{frame_layout, visible}
use Rattle.av1_plane.specs.Numbers.{InDepth}
use Rattle.av1_tiling.specs.Frames.{IsInRange}
use Rattle.av1_rec.specs.declared.text.header.FrameFormat.{FrameFormat}
use Rattle.av1_rec.specs.BlockTable.{first_values}
use Rattle.av1_rec.specs.Picture.{picture_sample, nearest_sample, picture_plane, source_frame, AreBelow, IsPictureBelow}
use Rattle.av1_rec.proofs.FirstValues.{first_count, first_at}

module _ (bound : ℕ) (some : 0 < bound) where
  -- The sample 0 is below the bound.
  pub zero_below : InDepth bound (pos 0)
  zero_below = (grind arith, grind arith)

  -- an entry of a list whose entries are below the bound, or 0 past its end
  pub entry_below : (xs : List ℤ) → All (InDepth bound) xs → (i : ℕ) → InDepth bound (get_or xs i (pos 0))
  entry_below xs all i = elim (cases_lt i (length xs)) [
    | inl inside ↦ all i (pos 0) inside
    | inr past ↦ subst (InDepth bound) (sym (get_or_past xs i (pos 0) past)) zero_below
  ]

  -- The samples of each row are below the bound.
  row_below : (rows : List (List ℤ)) → AreBelow bound rows → (y : ℕ) → All (InDepth bound) (get_or rows y [])
  row_below rows all y = elim (cases_lt y (length rows)) [
    | inl inside ↦ all y [] inside
    | inr past ↦ subst (All (InDepth bound)) (sym (get_or_past rows y [] past)) (λ k d l. absurd (omega (arith, l)))
  ]

  -- Each sample of a picture is below the bound, also past its end.
  pub sample_below : (rows : List (List ℤ)) → AreBelow bound rows → (x y : ℕ) → InDepth bound (picture_sample rows x y)
  sample_below rows all x y = entry_below (get_or rows y []) (row_below rows all y) x

  -- The first values of a function are below the bound where each of its values is.
  values_below : (f : ℕ → ℤ) → ((k : ℕ) → InDepth bound (f k)) → (n : ℕ) → All (InDepth bound) (first_values f n)
  values_below f each n k d l =
      let inside : k < n = let count = first_count f n in omega (arith, count, l) in
      subst (InDepth bound) (sym (first_at f n k d inside)) (each k)

  -- A plane that holds a picture below a bound is in range.
  pub plane_in_range : (cfg : PlaneConfig) (w h : ℕ) (rows : List (List ℤ)) → AreBelow bound rows → IsInRange bound (picture_plane cfg w h rows)
  plane_in_range cfg w h rows all x y hx hy =
      entry_below (picture_plane cfg w h rows).samples
      (values_below (λ k. nearest_sample cfg (visible w cfg.xdec) (visible h cfg.ydec) rows (k % cfg.stride) (k / cfg.stride)) (λ k. sample_below rows all _ _) (cfg.stride * cfg.alloc_height))
      ((cfg.yorigin + y) * cfg.stride + (cfg.xorigin + x))

  -- The planes of a frame that holds a picture below a bound are in range.
  pub source_in_range : (f : FrameFormat) (s : Three (List (List ℤ))) → IsPictureBelow bound s
      → IsInRange bound (source_frame f s).y × IsInRange bound (source_frame f s).u × IsInRange bound (source_frame f s).v
  unfolding source_frame
  source_in_range f s below =
      let layout = frame_layout f.width f.height f.sampling in
      (plane_in_range layout.y f.width f.height s.y below.y, plane_in_range layout.u f.width f.height s.u below.u, plane_in_range layout.v f.width f.height s.v below.v)
