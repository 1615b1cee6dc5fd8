use Rattle.mps_named.proofs.ColumnAgreement.{rows-named, columns-named}
use Rattle.mps_named.proofs.places_say_what_names_say.Goals as goal

pub returns : goal.returns
returns c = record { rows = rows-named; columns = columns-named }
