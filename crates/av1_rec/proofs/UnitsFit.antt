-- Recorded units of which there are as many as a view has.
use Rattle.std.proofs.Common.{◌≡◌, ◌&&◌, length, List, true, eqb}
use Rattle.std.proofs.lemmas.Bool.{and_parts, eqb-true}
use Rattle.av1_plane.specs.declared.three.Three.{Three}
use Rattle.av1_block.specs.declared.restoration_unit.RestorationUnit.{RestorationUnit}
use Rattle.av1_tiling.specs.Views.{TileState}
use Rattle.av1_rec.specs.Recorded.{units_fit}

-- each plane has as many recorded units as the view has
pub fitting : (t : TileState) (units : Three (List RestorationUnit)) → units_fit t units ≡ true
    → (length units.y ≡ length t.units.y.entries) × ((length units.u ≡ length t.units.u.entries) × (length units.v ≡ length t.units.v.entries))
fitting t units e =
    let y = eqb (length units.y) (length t.units.y.entries) in
    let u = eqb (length units.u) (length t.units.u.entries) in
    let v = eqb (length units.v) (length t.units.v.entries) in
    let first = and_parts y (u && v) e in
    let others = and_parts u v first.1 in
    (eqb-true (length units.y) (length t.units.y.entries) first.0, (eqb-true (length units.u) (length t.units.u.entries) others.0, eqb-true (length units.v) (length t.units.v.entries) others.1))
