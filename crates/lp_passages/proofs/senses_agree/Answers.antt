use Rattle.lp_passages.proofs.Turns.{reduces_in, pairs_in, no_point_in, either_in}
use Rattle.lp_passages.proofs.senses_agree.Goals as goal

pub returns-clause-points : goal.returns-clause-points
returns-clause-points c = reduces_in

pub returns-clause-pairs : goal.returns-clause-pairs
returns-clause-pairs c = pairs_in

pub returns-clause-none : goal.returns-clause-none
returns-clause-none c = no_point_in

pub returns-clause-either : goal.returns-clause-either
returns-clause-either c = either_in
