use Rattle.std.proofs.lemmas.Result.{IfOk-weaker}
use Rattle.check_command.proofs.RayTold.{ray_told}
use Rattle.check_command.proofs.ray_judging.judge_continuous_ray.Goals as goal

pub returns : goal.returns
returns c = λ name before now given. IfOk-weaker c.ray_verdict_ending.result _ _
    (λ ending h. ray_told c.args.program.now c.args.ray.now c.check_ray.result name before now given c.requires.continuous c.check_ray.ensures ending h) c.ray_verdict_ending.ensures
