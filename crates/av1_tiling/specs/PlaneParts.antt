-- A rectangle of a plane that was copied into a plane of its own.
use Rattle.std.specs.Prelude.{ℕ, List}
use Rattle.std.specs.Vec.{with_items}
use Rattle.std.proofs.Common.{sym, ◌∙◌}
use Rattle.av1_plane.specs.declared.plane.Plane.{Plane}
use Rattle.av1_plane.specs.declared.tile_rect.TileRect.{TileRect}
use Rattle.av1_tiling.specs.declared.plane_part.PlanePart.{PlanePart}

-- where a part's samples stood among the stored ones of the plane that they were copied from
abbrev pub part_rect : {X : Type 0} → PlanePart X → TileRect
part_rect p = record { x = p.x; y = p.y; width = p.plane.cfg.stride; height = p.plane.cfg.alloc_height }

-- the stride of the plane that a part was copied from
abbrev pub part_stride : {X : Type 0} → PlanePart X → ℕ
part_stride p = p.stride

-- a part's samples, row by row
abbrev pub part_samples : {X : Type 0} → PlanePart X → List X
part_samples p = p.plane.samples.items

-- the plane with these samples, as many as before
abbrev pub plane_with_all : {X : Type 0} → Plane X → List X → Plane X
plane_with_all p samples = record { samples = with_items p.samples samples; cfg = p.cfg; stored = sym (with_items p.samples samples).ok.0 ∙ (p.samples.ok.0 ∙ p.stored); wide = p.wide; high = p.high }

-- the part with these samples, as many as before
abbrev pub with_part_samples : {X : Type 0} → PlanePart X → List X → PlanePart X
with_part_samples p samples = record p { plane = plane_with_all p.plane samples }
