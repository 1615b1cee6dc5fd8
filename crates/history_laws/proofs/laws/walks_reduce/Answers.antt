use Rattle.history_laws.proofs.Walks.{walked_pairs, walked_reduces, walked_sound}
use Rattle.history_laws.proofs.laws.walks_reduce.Goals as goal

pub returns-clause-reduces : goal.returns-clause-reduces
returns-clause-reduces c = walked_reduces

pub returns-clause-pairs : goal.returns-clause-pairs
returns-clause-pairs c = walked_pairs

pub returns-clause-sound : goal.returns-clause-sound
returns-clause-sound c = walked_sound
