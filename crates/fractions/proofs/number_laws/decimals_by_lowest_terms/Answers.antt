use Rattle.fractions.proofs.Decimals.{HasPlaces-lowest}
use Rattle.fractions.proofs.number_laws.decimals_by_lowest_terms.Goals as goal

pub returns : goal.returns
returns c = HasPlaces-lowest
