use Rattle.exact_texts.specs.Texts.{frac_texts}
use Rattle.point_text.proofs.Again.{no_fault_again, point_again}
use Rattle.point_text.proofs.laws.written_solution_is_read.Goals as goal

pub returns-clause-fault : goal.returns-clause-fault
returns-clause-fault c = no_fault_again frac_texts (record { again = c.reads_again.ensures; field = c.is_field.ensures })

pub returns-clause-point : goal.returns-clause-point
returns-clause-point c = point_again frac_texts (record { again = c.reads_again.ensures; field = c.is_field.ensures })
