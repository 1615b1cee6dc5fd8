use Rattle.two_runs.proofs.OneGen.{gen_same}
use Rattle.two_runs.proofs.same_answers.gens_are_one.Goals as goal

pub returns : goal.returns
returns c = gen_same (record { reduced = c.conclusions_are_one.ensures.reduced; decided = c.conclusions_are_one.ensures.decided; apart = c.conclusions_are_one.ensures.apart })
