use Rattle.walk_laws.proofs.Reducing.{walk_pairs, walk_reduces}
use Rattle.walk_laws.proofs.laws.walks_reduce.Goals as goal

pub returns-clause-reduces : goal.returns-clause-reduces
returns-clause-reduces c = walk_reduces

pub returns-clause-pairs : goal.returns-clause-pairs
returns-clause-pairs c = walk_pairs
