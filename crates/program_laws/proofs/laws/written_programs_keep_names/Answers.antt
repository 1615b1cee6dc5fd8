use Rattle.program_laws.proofs.Writing.{written_row_names, written_column_names, written_well_named}
use Rattle.program_laws.proofs.laws.written_programs_keep_names.Goals as goal

pub returns-clause-rows : goal.returns-clause-rows
returns-clause-rows c = written_row_names

pub returns-clause-columns : goal.returns-clause-columns
returns-clause-columns c = written_column_names

pub returns-clause-named : goal.returns-clause-named
returns-clause-named c = written_well_named
