use Rattle.std.proofs.Common.{List, ℕ, map, subst}
use Rattle.std.specs.Prelude.{string_bytes}
use Rattle.av1_rec.specs.Answer.{Finished, asked}
use Rattle.av1_rec.specs.Commands.{command_of}
use Rattle.av1_rec.specs.Told.{Rose}
use Rattle.av1_rec.proofs.Ends.{ends}
use Rattle.av1_rec.proofs.OwnFrame.{own_frame_ends}
use Rattle.av1_rec.proofs.program.run.Goals as goal

pub returns-clause-own_frame : goal.returns-clause-own_frame
returns-clause-own_frame g c =
    let command = command_of (map string_bytes c.args.words.now) in
    let left = g.S.Source.left c.args.source.now in
    let read = Rose (g.S.Source.faults c.args.source.now) (g.S.Source.faults c.make-status.new.source) in
    let wrote = Rose (g.K.Sink.faults c.args.sink.now) (g.K.Sink.faults c.finish.new.sink) in
    let old = g.K.Sink.written c.args.sink.now in
    let new = g.K.Sink.written c.finish.new.sink in
    let status = c.make-status.result.0 in
    let printed = c.make-status.result.1.items in
    let written = subst (λ (text : List ℕ). Finished status text wrote old new c.finish.result) c.deref.ensures.value c.finish.ensures.written in
    own_frame_ends command left read wrote old new c.finish.result (ends command (asked command left) read wrote old new status c.finish.result printed c.make-status.ensures.made written)
