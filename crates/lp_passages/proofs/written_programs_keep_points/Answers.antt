use Rattle.lp_passages.proofs.Renumbered.{reduces_to_written, pairs_to_written, written_reduces_to, pairs_from_written}
use Rattle.lp_passages.proofs.written_programs_keep_points.Goals as goal

pub returns-clause-points : goal.returns-clause-points
returns-clause-points c = λ d M rows columns r. reduces_to_written M rows columns r d

pub returns-clause-pairs : goal.returns-clause-pairs
returns-clause-pairs c = λ d M rows columns r. pairs_to_written M rows columns r d

pub returns-clause-points_back : goal.returns-clause-points_back
returns-clause-points_back c = λ d M rows columns r. written_reduces_to M rows columns r d

pub returns-clause-pairs_back : goal.returns-clause-pairs_back
returns-clause-pairs_back c = λ d M rows columns r. pairs_from_written M rows columns r d
