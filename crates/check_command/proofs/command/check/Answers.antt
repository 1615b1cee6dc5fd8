use Rattle.std.proofs.Common.{refl}
use Rattle.std.proofs.lemmas.Result.{IfOk-weaker}
use Rattle.command_words.specs.Seen.{check_names_of}
use Rattle.endings.specs.declared.reads.TheConstants.{INPUT_LIMIT, SOLUTION_LIMIT}
use Rattle.endings.proofs.Earlier.{finds_there}
use Rattle.check_command.proofs.command.check.Goals as goal

pub returns-in-Ok-clause-ends : goal.returns-in-Ok-clause-ends
returns-in-Ok-clause-ends g c =
    let names = check_names_of c.args.words.now in
    let before = g.F.Files.moment c.args.files.now in
    let now = g.F.Files.moment c.read_both.new.files in
    IfOk-weaker c.judge.result _ _ (λ ending h. record {
      says = h;
      quiet = c.read_both.ensures.kept;
      read = λ a b. (
        finds_there INPUT_LIMIT names.input before now _ c.in-Ok.ensures.input,
        finds_there SOLUTION_LIMIT names.solution before now _ c.in-Ok.ensures.solution,
      );
    }) (c.judge.ensures names before now c.form_with-form.ensures refl c.in-Ok.ensures.input c.in-Ok.ensures.solution)
