use Rattle.point_text.proofs.PairAgain.{pair_fault_again, pair_point_again, pair_duals_again}
use Rattle.point_text.proofs.laws.written_pair_is_read_in_kind.Goals as goal

pub returns-clause-fault : goal.returns-clause-fault
returns-clause-fault g c = pair_fault_again g.T.Textual.texts (record { again = c.reads_again.ensures; field = c.is_field.ensures })

pub returns-clause-point : goal.returns-clause-point
returns-clause-point g c = pair_point_again g.T.Textual.texts (record { again = c.reads_again.ensures; field = c.is_field.ensures })

pub returns-clause-duals : goal.returns-clause-duals
returns-clause-duals g c = pair_duals_again g.T.Textual.texts (record { again = c.reads_again.ensures; field = c.is_field.ensures })
