use Rattle.endings.specs.declared.reads.TheConstants.{SOLUTION_LIMIT}
use Rattle.endings.proofs.Earlier.{given_reads}
use Rattle.check_command.specs.GivenTexts.{IsRayOf}
use Rattle.check_command.proofs.ray_judging.judge_ray_text.Goals as goal

pub returns-in-Ok : goal.returns-in-Ok
returns-in-Ok c = λ name before now finds. c.judge_ray.ensures name before now
    (given_reads SOLUTION_LIMIT (before.told name) c.args.text.now (λ text. IsRayOf c.args.program.now text c.in-Ok.ray) finds.0 finds.1 (c.requires.starts, c.in-Ok.ensures.read.0, c.in-Ok.ensures.read.1))
