use Rattle.written_walks.proofs.Walking.{written_walk}
use Rattle.written_walks.proofs.laws.written_records_walk.Goals as goal

pub returns : goal.returns
returns c = written_walk
