use Rattle.std.proofs.Common.{subst, inl}
use Rattle.std.proofs.lemmas.Result.{IfOk-weaker}
use Rattle.fractions.specs.declared.Numbers.{Numbers}
use Rattle.presolve_model.specs.declared.conclusion.Options.{Options}
use Rattle.endings.specs.declared.forms.Form.{Form}
use Rattle.endings.proofs.FormNumbers.{same_numbers}
use Rattle.endings.specs.Forms.{numbers_in, numbers_of}
use Rattle.endings.specs.ProgramTexts.{IsProgramOf}
use Rattle.explain_command.specs.Telling.{Tells}
use Rattle.explain_command.proofs.running.run.Goals as goal

pub returns-in-Ok : goal.returns-in-Ok
returns-in-Ok g c =
    let given = c.args.words.now.options in
    let options : Numbers → Options = λ numbers. record { numbers = numbers; limit = given.limit; dual = given.dual } in
    IfOk-weaker c.run_program.result _ _
    (λ told tells. inl (
      c.in-Ok.program,
      subst (λ (form : Form). IsProgramOf form c.args.text.now c.in-Ok.program) c.form_of-form.ensures c.in-Ok.ensures.read,
      subst (λ (numbers : Numbers). Tells (options numbers) c.args.words.now c.in-Ok.program told.status told.text.items) (same_numbers given.format (numbers_of given))
          (subst (λ (form : Form). Tells (options (numbers_in form)) c.args.words.now c.in-Ok.program told.status told.text.items) c.form_of-form.ensures
          (subst (λ (numbers : Numbers). Tells (options numbers) c.args.words.now c.in-Ok.program told.status told.text.items) c.numbers.ensures tells)),
    ))
    c.run_program.ensures
