use Rattle.std.proofs.Common.{ℕ, List, ◌≡◌, ◌∙◌, ◌<◌, length, get_or, refl, ap, subst, sym}
use Rattle.std.proofs.lemmas.List.Elements.{All-get_or}
use Rattle.av1_plane.specs.declared.three.Three.{Three}
use Rattle.av1_block.specs.RestorationUnit.{no_unit}
use Rattle.av1_block.specs.declared.restoration_unit.RestorationUnit.{RestorationUnit}
use Rattle.av1_tiling.specs.Restoration.{Units, AreUnits, IsUnit}
use Rattle.av1_tiling.proofs.PutBack.{refilled_whole}
use Rattle.av1_lrf.proofs.SmallFrames.{blank_described}
use Rattle.av1_lrf.proofs.tests.small_units.Goals as goal

pub returns-clause-units : goal.returns-clause-units
returns-clause-units c =
    let before = c.in_ok-state.state.planes.y.units.entries in
    let after = c.fill_units.new.units in
    let long : length after ≡ length before = c.fill_units.auto.units ∙ ap length c.entries_mut.ensures.entries in
    record {
      y = record {
        each =
            subst (λ (z : List RestorationUnit). (i : ℕ) → i < length z → IsUnit (get_or z i no_unit))
            (sym (refilled_whole (length before) before after refl long))
            (λ i l. All-get_or IsUnit after i no_unit l c.fill_units.ensures);
      };
      u = subst AreUnits (sym (ap (λ (s : Three Units). s.u) c.in_ok-state.ensures)) (blank_described _);
      v = subst AreUnits (sym (ap (λ (s : Three Units). s.v) c.in_ok-state.ensures)) (blank_described _);
    }
