use Rattle.value_tests.proofs.rays.cleared.Goals as goal

pub returns : goal.returns
returns c = c.weigh.ensures.sized 1 1 c.in_ok-ray.ensures
