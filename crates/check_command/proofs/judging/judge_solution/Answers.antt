use Rattle.std.proofs.Common.{Some, sym, ap, ◌∙◌, Vec, Global, ℕ, Option}
use Rattle.std.specs.Option.{option_map}
use Rattle.endings.specs.declared.reads.TheConstants.{SOLUTION_LIMIT}
use Rattle.endings.proofs.Earlier.{found_bytes}
use Rattle.check_command.proofs.judging.judge_solution.Goals as goal

pub returns-in-Some : goal.returns-in-Some
returns-in-Some g c = λ name before now finds. c.judge_text.ensures name before now
    (found_bytes SOLUTION_LIMIT name before now _ c.deref.result.now
    (ap (λ (s : Option (Vec ℕ Global)). option_map (λ text. text.items) s) c.in-Some.is ∙ ap Some (sym c.deref.ensures.value)) finds)
