use Rattle.std.proofs.Common.{inl, Some}
use Rattle.endings.specs.declared.reads.TheConstants.{SOLUTION_LIMIT}
use Rattle.check_command.specs.GivenTexts.{IsSolutionOf, NeedsContinuous}
use Rattle.check_command.proofs.Told.{reads_more}
use Rattle.check_command.proofs.judging.judge_with_duals.Goals as goal

pub returns-in_ok-not_continuous_text-in-Some : goal.returns-in_ok-not_continuous_text-in-Some
returns-in_ok-not_continuous_text-in-Some g c = λ name before now given. record {
  given = reads_more SOLUTION_LIMIT (before.told name) (λ text. IsSolutionOf g.T.Textual.texts.reading c.args.program.now text c.args.point.now (Some c.args.duals.now)) (λ text. NeedsContinuous g.T.Textual.texts.reading c.args.program.now text)
      (λ text h. inl (c.args.point.now, c.args.duals.now, h)) given;
  names = record { column = c.in-Some.column; whole = c.in-Some.ensures; line = c.in_ok-not_continuous_text-in-Some.ensures };
}
