use Rattle.std.proofs.Common.{subst}
use Rattle.line_groups.specs.Groups.{AreGroupsOf}
use Rattle.presolve_rounds.proofs.rounds.run_from.Goals as goal

pub run_with-end-requires-clause-groups : goal.run_with-end-requires-clause-groups
run_with-end-requires-clause-groups g c = subst (AreGroupsOf c.in_ok-groups.groups) c.problem.ensures c.in_ok-groups.ensures
