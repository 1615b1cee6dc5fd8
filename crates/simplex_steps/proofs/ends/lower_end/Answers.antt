use Rattle.std.proofs.Common.{ℕ, ◌<◌, ◌∙◌, subst}
use Rattle.lp_model.specs.Meaning.{meaning}
use Rattle.simplex_steps.proofs.Senses.{lower_same, variables_same}
use Rattle.simplex_steps.proofs.ends.lower_end.Goals as goal

pub lower_of_meaning-requires : goal.lower_of_meaning-requires
lower_of_meaning-requires c = subst (λ (n : ℕ). c.args.k < n) (variables_same c.args.program.now.sense (meaning c.args.program.now)) c.requires

pub returns : goal.returns
returns c = c.lower_of_meaning.ensures ∙ lower_same c.args.program.now.sense (meaning c.args.program.now) c.args.k
