use Rattle.book_turns.proofs.Going.{frozen_by, frozen_still}
use Rattle.book_turns.proofs.passes_remember.Goals as goal

pub returns-clause-frozen : goal.returns-clause-frozen
returns-clause-frozen c = frozen_by

pub returns-clause-kept : goal.returns-clause-kept
returns-clause-kept c = frozen_still
