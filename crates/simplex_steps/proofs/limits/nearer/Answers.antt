use Rattle.std.proofs.Common.{sym, ◌∙◌, subst}
use Rattle.simplex_steps.specs.Best.{IsBest}
use Rattle.simplex_steps.proofs.limits.nearer.Goals as goal

pub returns : goal.returns
returns c = λ limits e h. c.nearer_of.ensures limits (sym c.in-Some.is ∙ c.number.ensures ∙ e) (subst (λ o. IsBest limits c.args.m o) c.in-Some-best.is h)
