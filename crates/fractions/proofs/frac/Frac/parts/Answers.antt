use Rattle.std.proofs.Common.{ap, ◌∙◌, sym}
use Rattle.fractions.specs.Lowest.{over_of, under_of, over_of-ratio, under_of-ratio}
use Rattle.fractions.proofs.LowestTerms.{Fits-ratio}
use Rattle.fractions.proofs.frac.Frac.parts.Goals as goal

pub returns-clause-num : goal.returns-clause-num
returns-clause-num c = sym (over_of-ratio _ _ c.self.invariant) ∙ ap over_of c.self.view_is

pub returns-clause-den : goal.returns-clause-den
returns-clause-den c = sym (under_of-ratio _ _ c.self.invariant) ∙ ap under_of c.self.view_is

pub returns-clause-fits : goal.returns-clause-fits
returns-clause-fits c = rw (← c.self.view_is) (Fits-ratio _ _ c.self.invariant)
