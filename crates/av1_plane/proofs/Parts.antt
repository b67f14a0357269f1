-- Regions for writing that keep their place in their plane over a call.
use Rattle.std.proofs.Common.{◌≡◌, ◌*◌, length, refl, sym, ◌∙◌, ap}
use Rattle.av1_plane.specs.declared.region_mut.PlaneRegionMut.{PlaneRegionMut}
use Rattle.av1_plane.specs.Region.{samples_under, row_step, IsStored, IsSamePart}

-- a region that keeps its place has as many samples as before
pub same_length : {X : Type 0} → (a b : PlaneRegionMut X) → IsSamePart a b → length (samples_under b) ≡ length (samples_under a)
same_length a b s = b.plane.now.stored ∙ ap (λ c. c.stride * c.alloc_height) s.layout ∙ sym a.plane.now.stored

-- a region that keeps its place has rows as far apart as before
pub same_step : {X : Type 0} → (a b : PlaneRegionMut X) → IsSamePart a b → row_step b ≡ row_step a
same_step a b s = ap (λ c. c.stride) s.layout

-- a region that keeps its place still lies in its plane
pub stored_still : {X : Type 0} → (a b : PlaneRegionMut X) → IsStored a → IsSamePart a b → IsStored b
stored_still a b h s = record {
  wide = rw (s.rect, same_step a b s) h.wide;
  inside = rw (s.start, s.rect, same_step a b s, same_length a b s) h.inside;
}

-- a region that keeps its place over two calls keeps its place over both
pub part_still : {X : Type 0} → (a b c : PlaneRegionMut X) → IsSamePart a b → IsSamePart b c → IsSamePart a c
part_still a b c h k = record {
  name = k.name ∙ h.name;
  layout = k.layout ∙ h.layout;
  start = k.start ∙ h.start;
  cfg = k.cfg ∙ h.cfg;
  rect = k.rect ∙ h.rect;
}

-- a region that isn't called keeps its place
pub part_same : {X : Type 0} → (a : PlaneRegionMut X) → IsSamePart a a
part_same a = record { name = refl; layout = refl; start = refl; cfg = refl; rect = refl }

pub ruleset parts = (part_still, part_same, stored_still)
