use Rattle.mps_laws.proofs.Names.{names_kept, all_columns_named}
use Rattle.mps_laws.proofs.name_laws.names_are_those_of_cards.Goals as goal

pub returns : goal.returns
returns c = record { rows = names_kept; columns = all_columns_named }
