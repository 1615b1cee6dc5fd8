use Rattle.program_laws.proofs.WrittenShow.{rest, written_alike, written_pairs, written_points, written_points_back, written_ascends}
use Rattle.program_laws.proofs.laws.written_programs_are_shown.Goals as goal

pub returns-clause-same : goal.returns-clause-same
returns-clause-same c = written_alike

pub returns-clause-rest : goal.returns-clause-rest
returns-clause-rest c = rest

pub returns-clause-points : goal.returns-clause-points
returns-clause-points c = written_points

pub returns-clause-pairs : goal.returns-clause-pairs
returns-clause-pairs c = written_pairs

pub returns-clause-points_back : goal.returns-clause-points_back
returns-clause-points_back c = written_points_back

pub returns-clause-ascends : goal.returns-clause-ascends
returns-clause-ascends c = written_ascends
