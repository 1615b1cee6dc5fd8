use Rattle.std.proofs.Common.{ap, ◌∙◌}
use Rattle.lp_model.specs.EndTests.{is_crossed}
use Rattle.problem_model.specs.declared.line.Sides.{Sides}
use Rattle.ray_starts.proofs.Verdicts.{above_is, no_past}
use Rattle.ray_starts.proofs.starts.is_above.Goals as goal

pub unreachable-requires : goal.unreachable-requires
unreachable-requires c = no_past c.args.problem.now c.args.row _ _ c.is_sparse.ensures c.requires c.least.ensures c.in-Err.is

pub returns : goal.returns
returns c = c.crossed.ensures ∙ ap (λ (s : Sides). is_crossed c.in-Ok.value s.upper) c.sides-upper.ensures ∙ above_is c.args.problem.now c.args.row c.in-Ok.value _ c.is_sparse.ensures c.requires c.least.ensures c.in-Ok.is
