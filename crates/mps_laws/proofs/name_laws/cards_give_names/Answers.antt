use Rattle.mps_laws.proofs.Names.{cards_give_names}
use Rattle.mps_laws.proofs.name_laws.cards_give_names.Goals as goal

pub returns-clause-rows : goal.returns-clause-rows
returns-clause-rows c = λ dialect text. (cards_give_names dialect text).0

pub returns-clause-columns : goal.returns-clause-columns
returns-clause-columns c = λ dialect text. (cards_give_names dialect text).1
