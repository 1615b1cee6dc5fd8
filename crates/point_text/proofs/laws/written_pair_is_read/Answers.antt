use Rattle.point_text.proofs.laws.written_pair_is_read.Goals as goal

pub returns-clause-fault : goal.returns-clause-fault
returns-clause-fault c = c.written_pair_is_read_in_kind.ensures.fault

pub returns-clause-point : goal.returns-clause-point
returns-clause-point c = c.written_pair_is_read_in_kind.ensures.point

pub returns-clause-duals : goal.returns-clause-duals
returns-clause-duals c = c.written_pair_is_read_in_kind.ensures.duals
