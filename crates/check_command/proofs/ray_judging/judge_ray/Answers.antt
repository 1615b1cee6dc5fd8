use Rattle.endings.specs.declared.reads.TheConstants.{SOLUTION_LIMIT}
use Rattle.check_command.specs.GivenTexts.{GivesRay, IsRayOf}
use Rattle.check_command.proofs.Told.{reads_more}
use Rattle.check_command.proofs.ray_judging.judge_ray.Goals as goal

pub returns-in_ok-not_continuous_text-in-Some : goal.returns-in_ok-not_continuous_text-in-Some
returns-in_ok-not_continuous_text-in-Some c = λ name before now given. record {
  given = reads_more SOLUTION_LIMIT (before.told name) (λ text. IsRayOf c.args.program.now text c.args.ray.now) (λ text. GivesRay c.args.program.now text)
      (λ text h. (c.args.ray.now, h)) given;
  names = record { column = c.in-Some.column; whole = c.in-Some.ensures; line = c.in_ok-not_continuous_text-in-Some.ensures };
}
