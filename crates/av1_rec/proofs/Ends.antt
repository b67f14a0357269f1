-- The status and the text that a run made, and how far they were written, give the run's answer.
use Rattle.std.proofs.Common.{◌≡◌, inl, inr, ℕ, List, [], ◌∷◌, ◌++◌, Option, Some, None, refl, sym, ap, ◌∙◌, subst}
use Rattle.std.specs.Prelude.{IfSome, IfOk, Result, Ok, Err}
use Rattle.std.specs.Io.KnownBytes.{Appends}
use Rattle.av1_rec.specs.Told.{Prefixed}
use Rattle.av1_rec.specs.declared.program.commands.Command.{Command}
use Rattle.av1_rec.specs.declared.program.status.Status.{Status}
use Rattle.av1_rec.specs.declared.program.status.Status.TheVariants as status
use Rattle.av1_rec.specs.Answer.{IsOfText, Made, Finished, PartWritten, Answered}
use Rattle.av1_rec.specs.Group.{Answer}

module _ (command : Option Command) (known : Option Answer) (read_rose write_rose : Type 0) (old new : Option (List ℕ)) where
  -- an answer that is known was printed
  told : (o : Option Answer) (s : Status) (printed : List ℕ) → IfSome o (λ a. a ≡ (s, printed)) → Appends old new printed → IfSome o (λ a. (s ≡ a.0) × Appends old new a.1)
  told None s printed h appended = tt
  told (Some a) s printed h appended = (ap (λ (a : Answer). a.0) (sym h), subst (λ (a : Answer). Appends old new a.1) (sym h) appended)

  -- a part of an answer that is known was printed
  told_part : (o : Option Answer) (s : Status) (printed : List ℕ) → IfSome o (λ a. a ≡ (s, printed)) → Prefixed old new printed → IfSome o (λ a. Prefixed old new a.1)
  told_part None s printed h front = tt
  told_part (Some a) s printed h front = subst (λ (a : Answer). Prefixed old new a.1) (sym h) front

  -- the front of nothing is nothing
  empty : (front rest : List ℕ) → front ++ rest ≡ [] → front ≡ []
  empty [] rest e = refl
  empty (x ∷ front) rest e = absurd cc

  -- a part of nothing is nothing
  nothing : (printed : List ℕ) → printed ≡ [] → Prefixed old new printed → Appends old new []
  nothing printed is front = subst (λ (p : List ℕ). Appends old new p) (empty front.0 front.1 (sym front.2 ∙ is)) front.3

  -- nothing that was to be printed is a part of every answer
  none_part : (o : Option Answer) (printed : List ℕ) → printed ≡ [] → Prefixed old new printed → IfSome o (λ a. Prefixed old new a.1)
  none_part None printed is front = tt
  none_part (Some a) printed is front = ([], a.1, refl, nothing printed is front)

  -- nothing that was written is a part of every answer
  none_written : (o : Option Answer) → Appends old new [] → IfSome o (λ a. Prefixed old new a.1)
  none_written None appended = tt
  none_written (Some a) appended = ([], a.1, refl, appended)

  -- a run that wrote all that it made has answered
  whole : (s : Status) (printed : List ℕ) → Made command known read_rose s printed → Appends old new printed → Answered command known read_rose write_rose old new s
  whole status.OutOfMemory printed made appended = inl (none_written known (subst (λ (p : List ℕ). Appends old new p) made appended))
  whole status.ReadFault printed made appended = (made.0, made.1, subst (λ (p : List ℕ). Appends old new p) made.2 appended)
  whole status.WriteFault printed made appended = absurd made
  whole status.Usage printed made appended = (made.0, told known status.Usage printed made.1 appended)
  whole status.TooLong printed made appended = (made.0, told known status.TooLong printed made.1 appended)
  whole status.Done printed made appended = (made.0, told known status.Done printed made.1 appended)
  whole status.NoTiling printed made appended = (made.0, told known status.NoTiling printed made.1 appended)
  whole (status.Group error) printed made appended = (made.0, told known (status.Group error) printed made.1 appended)
  whole (status.Syntax line) printed made appended = (made.0, told known (status.Syntax line) printed made.1 appended)

  -- a run that wrote a part of its text has answered with a part
  part : (s : Status) (printed : List ℕ) → Made command known read_rose s printed → Prefixed old new printed → PartWritten command known read_rose old new
  part status.OutOfMemory printed made front = inl (none_part known printed made front)
  part status.ReadFault printed made front = inr (made.0, made.1, subst (λ (p : List ℕ). Prefixed old new p) made.2 front)
  part status.WriteFault printed made front = absurd made
  part status.Usage printed made front = inl (told_part known status.Usage printed made.1 front)
  part status.TooLong printed made front = inl (told_part known status.TooLong printed made.1 front)
  part status.Done printed made front = inl (told_part known status.Done printed made.1 front)
  part status.NoTiling printed made front = inl (told_part known status.NoTiling printed made.1 front)
  part (status.Group error) printed made front = inl (told_part known (status.Group error) printed made.1 front)
  part (status.Syntax line) printed made front = inl (told_part known (status.Syntax line) printed made.1 front)

  -- a run has answered, however its writing ended
  pub ends : (s after : Status) (printed : List ℕ) → Made command known read_rose s printed → Finished s printed write_rose old new after → Answered command known read_rose write_rose old new after
  ends s after printed made (inl done) = subst (Answered command known read_rose write_rose old new) (sym done.0) (whole s printed made done.1)
  ends s after printed made (inr (inl fault)) = subst (Answered command known read_rose write_rose old new) (sym fault.0) (fault.1, part s printed made fault.2)
  ends s after printed made (inr (inr memory)) = subst (Answered command known read_rose write_rose old new) (sym memory.0) (part s printed made memory.1)

-- a text alone is never too long
pub never_too_long : {V E : Type 0} (P : Type 0) (r : Result (Status × V) E) → IfOk r (λ x. IsOfText x.0) → IfOk r (λ x. x.0 ≡ status.TooLong → P)
never_too_long P (Ok x) kind = λ e. absurd (subst IsOfText e kind)
never_too_long P (Err e) kind = tt
