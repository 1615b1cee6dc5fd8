use Rattle.book_turns.proofs.Going.{applied_stands, frozen_is}
use Rattle.book_turns.proofs.turns_are_kept.Goals as goal

pub returns-clause-applied : goal.returns-clause-applied
returns-clause-applied c = applied_stands

pub returns-clause-frozen : goal.returns-clause-frozen
returns-clause-frozen c = frozen_is
