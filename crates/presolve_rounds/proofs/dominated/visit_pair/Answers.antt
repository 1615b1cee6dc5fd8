use Rattle.std.proofs.Common.{subst, sym}
use Rattle.dual_rules.specs.Footprints.{AreFootprints}
use Rattle.presolve_model.specs.Ledger.{Ledger}
use Rattle.presolve_rounds.proofs.dominated.visit_pair.Goals as goal

pub returns-then-not-branch-clause-kept : goal.returns-then-not-branch-clause-kept
returns-then-not-branch-clause-kept c = subst (λ (b : Ledger). AreFootprints b.problem c.args.footprints.now) (sym (c.in_ok-visit.ensures.still c.if-not-branch.true)) c.requires.kept
