use Rattle.two_runs.proofs.OneCheck.{check_same}
use Rattle.two_runs.proofs.same_answers.checks_are_one.Goals as goal

pub returns : goal.returns
returns c = check_same c.verdicts_on_rays_are_one.ensures
