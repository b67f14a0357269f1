-- What a plane or a region for writing ends as after samples of it were lent, and what a lent part
-- of a region is.
use Rattle.std.specs.Prelude.{ℕ, ◌≡◌, ◌+◌, ◌*◌, ◌<◌, ◌≤◌, unsigned_abs, length, List, []}
use Rattle.std.specs.Borrow.{Lends, follows, Array, MutBor, Fml, RattleType}
use mir.Syntax.{named}
use Rattle.av1_plane.specs.declared.plane.Plane.{Plane}
use Rattle.av1_plane.specs.declared.area.Area.{Area}
use Rattle.av1_plane.specs.declared.region.Rect.{Rect}
use Rattle.av1_plane.specs.declared.region_mut.PlaneRegionMut.{PlaneRegionMut}
use Rattle.av1_plane.specs.Area.{homed_rect, moved_rect}
use Rattle.av1_plane.specs.Place.{no_area}
use Rattle.av1_plane.specs.Reading.{part_of}
use Rattle.av1_plane.specs.Region.{spot, first_place, row_step, area, samples_under, with_run, IsStored}
use Rattle.av1_plane.specs.Runs.{plane_with_run}
use Rattle.av1_plane.specs.contracts.plane.Plane as plane
use Rattle.av1_plane.specs.contracts.region_mut.PlaneRegionMut as region

-- the region r with the plane p under it
abbrev pub with_plane_under : {X : Type 0} → PlaneRegionMut X → Plane X → PlaneRegionMut X
with_plane_under r p = record r { plane = record r.plane { now = p } }

-- b is the rectangle of a, seen at the origin
pub record IsHomeOf {X : Type 0} (a b : PlaneRegionMut X) : Type 0 where
  pub plane : b.plane.now ≡ a.plane.now
  pub start : first_place b ≡ first_place a
  pub cfg : b.plane_cfg ≡ a.plane_cfg
  pub rect : area b ≡ homed_rect (area a)

-- where the first sample of a part of r stands in the samples of its plane
abbrev pub part_place : {X : Type 0} → PlaneRegionMut X → Rect → ℕ
part_place r part = spot (first_place r) (row_step r) (unsigned_abs part.x) (unsigned_abs part.y)

-- b is the rectangle `part` of a, which counts from the first sample of a
pub record IsPartUnder {X : Type 0} (a b : PlaneRegionMut X) (part : Rect) : Type 0 where
  pub start : 0 < part.height → first_place b ≡ part_place a part
  pub cfg : b.plane_cfg ≡ a.plane_cfg
  pub rect : area b ≡ moved_rect (area a) part
  pub stored : IsStored b

-- where an area of r begins in the samples of its plane, and its rectangle; without samples where r
-- has none
pub record IsPlaceOf {X : Type 0} (r : PlaneRegionMut X) (part : Area) (start : ℕ) (rect : Rect) : Type 0 where
  pub begins : 0 < (area r).width → 0 < (area r).height → 0 < rect.height
      → start ≡ part_place r (part_of r.plane_cfg (area r) part)
  pub shown : 0 < (area r).width → 0 < (area r).height
      → rect ≡ moved_rect (area r) (part_of r.plane_cfg (area r) part)
  pub no_width : (area r).width ≡ 0 → rect ≡ no_area
  pub no_height : (area r).height ≡ 0 → rect ≡ no_area
  pub wide : rect.width ≤ row_step r
  pub inside : start + rect.height * row_step r + rect.width ≤ length (samples_under r) + row_step r

-- b is the area `part` of a; b is empty where a is
pub record IsAreaUnder {X : Type 0} (a b : PlaneRegionMut X) (part : Area) : Type 0 where
  pub inside : 0 < (area a).width → 0 < (area a).height
      → IsPartUnder a b (part_of a.plane_cfg (area a) part)
  pub cfg : b.plane_cfg ≡ a.plane_cfg
  pub no_width : (area a).width ≡ 0 → area b ≡ no_area
  pub no_height : (area a).height ≡ 0 → area b ≡ no_area
  pub stored : IsStored b

-- the plane ends with what was left in the lent run, from place `i` on
abbrev pub LendsPlaneRun : (T : RattleType) → MutBor (Plane T.Denot) → MutBor (List T.Denot) → ℕ → Fml
LendsPlaneRun T self run place =
    Lends (plane.the_row T) (Array T 0) self run (plane_with_run self.now place)

-- the region ends with what was left in the lent run, from place `i` of its plane on
abbrev pub LendsRun : (T : RattleType) → MutBor (PlaneRegionMut T.Denot) → MutBor (List T.Denot) → ℕ → Fml
LendsRun T self run place =
    Lends (region.the_row (record { mir = named 1; lft = [] }) T) (Array T 0) self run
    (with_run self.now place)

-- the region ends with the plane that the other region leaves
abbrev pub LendsUnder : (T : RattleType) → MutBor (PlaneRegionMut T.Denot) → PlaneRegionMut T.Denot → Fml
LendsUnder T self lent =
    follows (region.the_row (record { mir = named 1; lft = [] }) T) (plane.the_row T)
    self.ghost_name lent.plane.ghost_name (with_plane_under self.now)
