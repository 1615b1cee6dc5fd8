use Rattle.book_turns.proofs.Going.{found_taken, scanned_taken}
use Rattle.book_turns.proofs.found_are_taken.Goals as goal

pub returns-clause-each : goal.returns-clause-each
returns-clause-each c = found_taken

pub returns-clause-scanned : goal.returns-clause-scanned
returns-clause-scanned c = scanned_taken
