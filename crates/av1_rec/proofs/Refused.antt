-- The answer where a group is refused.
use Rattle.std.proofs.Common.{◌≡◌, ℕ, Vec, Global, Result, Ok, Err, IfOk, Option, Some, None, false, true, refl, sym, ◌∙◌, subst}
use Rattle.std.specs.Result.{IsErr}
use Rattle.av1_frame.specs.declared.group_error.GroupError.{GroupError}
use Rattle.av1_frame.specs.Coding.{refusal}
use Rattle.av1_rec.specs.declared.program.report.Form.{Form}
use Rattle.av1_rec.specs.declared.program.status.Status.{Status}
use Rattle.av1_rec.specs.declared.program.status.Status.TheVariants.{Group, Done}
use Rattle.av1_rec.specs.Answer.{IsOfText}
use Rattle.av1_rec.specs.Group.{Answer, said_job, reported, reported_text, group_answer}
use Rattle.av1_rec.specs.Statuses.{refusal_line}
use Rattle.av1_rec.specs.Text.{Said}

-- what is answered where the results are refused
pub answer_is : (form : Form) (s : Said) (error : GroupError) → refusal (said_job s).parameters (said_job s).results ≡ Some error → group_answer form s ≡ (Group error, refusal_line (Group error))
unfolding group_answer
answer_is form s error e =
    subst (λ (o : Option GroupError). ◌≡◌ {A = Answer} (elim o as (λ _. Answer) [ Some x ↦ (Group x, refusal_line (Group x)) | None ↦ (Done, reported_text form (reported (said_job s))) ]) (Group error, refusal_line (Group error)))
    (sym e) refl

-- an error has no value
pub no_value : {A E : Type 0} (r : Result A E) (P : A → Type 0) → IsErr r → IfOk r P
no_value (Ok x) P h = absurd (let f : false ≡ true = h in cc)
no_value (Err e) P h = tt

-- a fact about a status and its line holds of a result that has them
pub value_is : {E : Type 0} (r : Result (Status × Vec ℕ Global) E) (status : Status) (answer : Answer) → IfOk r (λ x. x.0 ≡ status) → IfOk r (λ x. x.1.items ≡ refusal_line status)
    → answer ≡ (status, refusal_line status) → IfOk r (λ x. (x.0, x.1.items) ≡ answer)
value_is (Ok x) status answer a b e = (λ i. (a i, b i)) ∙ sym e
value_is (Err e) status answer a b h = tt

-- a fact about the status of a text holds of a result that has this status
pub kind_is : {E : Type 0} (r : Result (Status × Vec ℕ Global) E) (status : Status) → IfOk r (λ x. x.0 ≡ status) → IsOfText status → IfOk r (λ x. IsOfText x.0)
kind_is (Ok x) status a k = subst IsOfText (sym a) k
kind_is (Err e) status a k = tt
