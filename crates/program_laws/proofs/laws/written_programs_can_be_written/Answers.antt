use Rattle.program_laws.proofs.Writing.{problem_writable, written_writable}
use Rattle.program_laws.proofs.laws.written_programs_can_be_written.Goals as goal

pub returns-clause-start : goal.returns-clause-start
returns-clause-start c = problem_writable

pub returns-clause-writable : goal.returns-clause-writable
returns-clause-writable c = written_writable
