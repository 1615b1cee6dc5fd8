use Rattle.problem_model.specs.Matrices.{live_only}
use Rattle.line_groups.proofs.KeyLaws.{first_not_zero}
use Rattle.line_groups.proofs.keys.key_of.Goals as goal

pub with_ends-requires : goal.with_ends-requires
with_ends-requires c = first_not_zero (live_only c.args.others.now c.args.terms.now) c.in-Some.first c.requires c.in-Some.ensures
