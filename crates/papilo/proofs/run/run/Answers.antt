use Rattle.std.proofs.Common.{inl, sym, subst, ◌∙◌}
use Rattle.file_ports.specs.Ports.{Grown}
use Rattle.command_app.specs.Line.{texts}
use Rattle.command_line.specs.Line.{asked}
use Rattle.endings.specs.Ending.{status_of, text_of}
use Rattle.papilo.proofs.Quiet.{infeasible, kept, quiet, unspent}
use Rattle.papilo.proofs.Said.{ends_at, status_known, there, unwritten}
use Rattle.papilo.proofs.run.run.Goals as goal

pub returns-in-Ok-clause-answers : goal.returns-in-Ok-clause-answers
returns-in-Ok-clause-answers g c = λ other.
    let ending = c.ending_of-ending.result in (
      text_of ending,
      ends_at (asked (texts c.args.words.now)) (status_of ending) c.status.result (text_of ending) _ _ (sym c.status.ensures) c.ending_of-ending.ensures.ends,
      subst (Grown (g.S.Sink.taken c.args.out.now) (g.S.Sink.taken c.put.new.self)) c.text.ensures c.in-Ok.ensures.grown,
    )

pub returns-in-Ok-clause-unwritten : goal.returns-in-Ok-clause-unwritten
returns-in-Ok-clause-unwritten g c = λ four.
    let ending = c.ending_of-ending.result in
    inl (unwritten (asked (texts c.args.words.now)) (status_of ending) (text_of ending) _ _ (sym c.status.ensures ∙ four) c.ending_of-ending.ensures.ends)

pub returns-in-Ok-clause-refused : goal.returns-in-Ok-clause-refused
returns-in-Ok-clause-refused g c = λ one. c.ending_of-ending.ensures.refused (sym c.status.ensures ∙ one)

pub returns-in-Ok-clause-known : goal.returns-in-Ok-clause-known
returns-in-Ok-clause-known g c = status_known c.ending_of-ending.result c.status.result c.status.ensures

pub returns-in-Ok-clause-quiet : goal.returns-in-Ok-clause-quiet
returns-in-Ok-clause-quiet g c = λ done failed found.
    quiet (asked (texts c.args.words.now)) c.ending_of-ending.result _ _ c.ending_of-ending.ensures.ends (λ e. done (c.status.ensures ∙ e)) (λ e. failed (c.status.ensures ∙ e)) (λ e. found (c.status.ensures ∙ e))

pub returns-in-Ok-clause-infeasible : goal.returns-in-Ok-clause-infeasible
returns-in-Ok-clause-infeasible g c = λ found. infeasible (asked (texts c.args.words.now)) c.ending_of-ending.result _ _ c.ending_of-ending.ensures.ends (sym c.status.ensures ∙ found)

pub returns-in-Ok-clause-unspent : goal.returns-in-Ok-clause-unspent
returns-in-Ok-clause-unspent g c = λ five. unspent (asked (texts c.args.words.now)) c.ending_of-ending.result _ _ c.ending_of-ending.ensures.ends (sym c.status.ensures ∙ five)

pub returns-in-Ok-clause-kept : goal.returns-in-Ok-clause-kept
returns-in-Ok-clause-kept g c = kept (asked (texts c.args.words.now)) c.ending_of-ending.result _ _ c.ending_of-ending.ensures.ends

pub returns-in-Ok-clause-read : goal.returns-in-Ok-clause-read
returns-in-Ok-clause-read g c = λ unread failed starved.
    let ending = c.ending_of-ending.result in
    there (asked (texts c.args.words.now)) (status_of ending) (text_of ending) _ _ c.ending_of-ending.ensures.ends (λ e. unread (c.status.ensures ∙ e)) (λ e. starved (c.status.ensures ∙ e))

pub returns-clause-kept : goal.returns-clause-kept
returns-clause-kept g c = kept (asked (texts c.args.words.now)) c.ending_of-ending.result _ _ c.ending_of-ending.ensures.ends
