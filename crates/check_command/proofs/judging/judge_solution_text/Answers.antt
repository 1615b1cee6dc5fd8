use Rattle.endings.specs.declared.reads.TheConstants.{SOLUTION_LIMIT}
use Rattle.endings.proofs.Earlier.{given_reads}
use Rattle.check_command.specs.GivenTexts.{IsSolutionOf}
use Rattle.check_command.proofs.judging.judge_solution_text.Goals as goal

pub returns-in-Ok : goal.returns-in-Ok
returns-in-Ok g c = λ name before now finds. c.judge_given.ensures name before now
    (given_reads SOLUTION_LIMIT (before.told name) c.args.text.now (λ text. IsSolutionOf g.T.Textual.texts.reading c.args.program.now text c.in-Ok.pair.point c.in-Ok.pair.duals) finds.0 finds.1 (c.requires.starts, c.in-Ok.ensures.read))
