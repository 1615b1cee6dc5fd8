use Rattle.fractions.specs.Gcd.{gcd-IsGcd}
use Rattle.fractions.proofs.Reducing.{reduced_by}
use Rattle.fractions.proofs.LowestTerms.{Fits-ratio}
use Rattle.fractions.proofs.frac.Frac.ratio_of.Goals as goal

pub over-requires-clause-divides : goal.over-requires-clause-divides
over-requires-clause-divides c = rw (c.gcd-common.ensures.value, c.size.ensures.value) (gcd-IsGcd _ _).0

pub invariant_of-result : goal.invariant_of-result
invariant_of-result c = (reduced_by c.args.n c.over.result c.args.d c.gcd-common.result c.quotient.result c.over.ensures.in_range c.requires.small c.requires.some (rw (c.gcd-common.ensures.value, c.size.ensures.value)) c.over.ensures.exact c.quotient.ensures).0

pub returns-clause-value : goal.returns-clause-value
returns-clause-value c = (reduced_by c.args.n c.over.result c.args.d c.gcd-common.result c.quotient.result c.over.ensures.in_range c.requires.small c.requires.some (rw (c.gcd-common.ensures.value, c.size.ensures.value)) c.over.ensures.exact c.quotient.ensures).1

pub returns-clause-fits : goal.returns-clause-fits
returns-clause-fits c = Fits-ratio _ _ (reduced_by c.args.n c.over.result c.args.d c.gcd-common.result c.quotient.result c.over.ensures.in_range c.requires.small c.requires.some (rw (c.gcd-common.ensures.value, c.size.ensures.value)) c.over.ensures.exact c.quotient.ensures).0
