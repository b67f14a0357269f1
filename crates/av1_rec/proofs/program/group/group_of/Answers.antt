use Rattle.std.proofs.Common.{inl, inr}
use Rattle.av1_rec.specs.declared.program.status.Status.TheVariants.{Group}
use Rattle.av1_rec.specs.Text.{said}
use Rattle.av1_rec.specs.Group.{group_answer}
use Rattle.av1_rec.proofs.Refused.{answer_is, no_value, value_is, kind_is}
use Rattle.av1_rec.proofs.program.group.group_of.Goals as goal

pub returns-in-Err : goal.returns-in-Err
returns-in-Err g c =
    let s = said g.T.Pixel.number c.args.text in
    let error = c.in-Err.error in
    let r = c.group_refusal.result in
    let e = c.group_refusal.ensures in
    elim c.in-Err.ensures.causes [
      | inl none ↦ record { value = no_value r _ (e.memory none); kind = no_value r _ (e.memory none) }
      | inr for ↦ record {
        value = value_is r (Group error) (group_answer c.args.form s) e.status e.line (answer_is c.args.form s error for);
        kind = kind_is r (Group error) e.status tt;
      }
    ]
