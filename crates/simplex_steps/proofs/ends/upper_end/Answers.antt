use Rattle.std.proofs.Common.{ℕ, ◌<◌, ◌∙◌, subst}
use Rattle.lp_model.specs.Meaning.{meaning}
use Rattle.simplex_steps.proofs.Senses.{upper_same, variables_same}
use Rattle.simplex_steps.proofs.ends.upper_end.Goals as goal

pub upper_of_meaning-requires : goal.upper_of_meaning-requires
upper_of_meaning-requires c = subst (λ (n : ℕ). c.args.k < n) (variables_same c.args.program.now.sense (meaning c.args.program.now)) c.requires

pub returns : goal.returns
returns c = c.upper_of_meaning.ensures ∙ upper_same c.args.program.now.sense (meaning c.args.program.now) c.args.k
