use Rattle.std.proofs.Common.{Some, refl, sym, ap, ◌∙◌, Vec, Global, ℕ, Option}
use Rattle.std.specs.Option.{option_map}
use Rattle.std.proofs.lemmas.Result.{IfOk-weaker}
use Rattle.check_command.specs.Checked.{check_form}
use Rattle.endings.specs.declared.reads.TheConstants.{INPUT_LIMIT}
use Rattle.endings.proofs.Earlier.{found_bytes, program_read}
use Rattle.check_command.proofs.Said.{solution_said}
use Rattle.check_command.proofs.judging.judge.Goals as goal

pub returns-in-Ok : goal.returns-in-Ok
returns-in-Ok c = λ names before now is width finds found.
    let gives = found_bytes INPUT_LIMIT names.input before now _ c.deref.result.now
    (ap (λ (s : Option (Vec ℕ Global)). option_map (λ text. text.items) s) c.in-Some.is ∙ ap Some (sym c.deref.ensures.value)) finds in
    let read = program_read INPUT_LIMIT (before.told names.input) c.args.form (check_form names) c.deref.result.now c.deref.result.now c.in-Ok.program gives.0 gives.1 is refl c.in-Ok.ensures.read in
    IfOk-weaker c.judge_by_width.result _ _ (λ ending h. solution_said names before now c.args.wide width c.in-Ok.program ending read h) (c.judge_by_width.ensures names.solution before now found)
