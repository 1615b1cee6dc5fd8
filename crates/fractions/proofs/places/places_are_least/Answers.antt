use Rattle.fractions.proofs.DecimalLaws.{least_places, no_places}
use Rattle.fractions.proofs.places.places_are_least.Goals as goal

pub returns : goal.returns
returns c = record { found = least_places; missing = no_places }
