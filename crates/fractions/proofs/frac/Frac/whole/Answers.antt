use Rattle.fractions.proofs.Floors.{of_ℤ-ratio, IsLowest-whole}
use Rattle.fractions.proofs.LowestTerms.{Fits-ratio}
use Rattle.fractions.proofs.frac.Frac.whole.Goals as goal

pub invariant_of-result : goal.invariant_of-result
invariant_of-result c = IsLowest-whole _ c.has_room.ensures

pub returns-clause-value : goal.returns-clause-value
returns-clause-value c = of_ℤ-ratio _

pub returns-clause-fits : goal.returns-clause-fits
returns-clause-fits c = Fits-ratio _ _ (IsLowest-whole _ c.has_room.ensures)
