use Rattle.std.proofs.lemmas.Result.{IfOk-weaker}
use Rattle.check_command.proofs.Told.{ray_says}
use Rattle.check_command.proofs.judging.judge_text.Goals as goal

pub returns-then-is_ray : goal.returns-then-is_ray
returns-then-is_ray g c = λ name before now finds. IfOk-weaker c.judge_ray_text.result _ _
    (λ ending h. ray_says g.T.Exact.room g.T.Textual.texts c.args.program.now name before now ending h) (c.judge_ray_text.ensures name before now finds)
