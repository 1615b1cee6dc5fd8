use Rattle.std.proofs.Common.{◌≡◌, false, sym, ap, ◌∙◌}
use Rattle.problem_model.specs.Sparse.{Sparse}
use Rattle.problem_laws.proofs.Terms.{not_both}
use Rattle.presolve_model.specs.Enabled.{enabled_on}
use Rattle.presolve_model.specs.Ledger.{instance_count, Ledger}
use Rattle.presolve_model.specs.Tallies.{open_on}
use Rattle.round_laws.proofs.Turns.{met_over}
use Rattle.presolve_rounds.proofs.Running.{stale_left}
use Rattle.presolve_rounds.proofs.pass.visit.Goals as goal

pub returns-then-not-is_enabled-clause-passed : goal.returns-then-not-is_enabled-clause-passed
returns-then-not-is_enabled-clause-passed c =
    let a : Ledger = c.args.walk.now.frozen.now.value in
    let off : enabled_on c.args.book.now.problem c.args.instance ≡ false = ap (λ (p : Sparse). enabled_on p c.args.instance) (sym c.problem.ensures) ∙ sym c.is_enabled.ensures ∙ c.if-not-is_enabled.true in
    record {
      passed = met_over (open_on a.tally) a.problem (instance_count a) c.args.instance c.args.watch.now.marks c.args.book.now c.requires.going.follows (λ on. not_both on off);
      forms = c.requires.going.forms;
    }

pub returns-then-not-branch-clause-passed : goal.returns-then-not-branch-clause-passed
returns-then-not-branch-clause-passed c =
    stale_left c.args.walk.now.frozen.now.value c.args.watch.now c.leave.new.self c.args.book.now c.args.instance c.head.result c.requires.going (c.in_ok-is_fresh.ensures.stale c.if-not-branch.true) c.in_ok-leave.ensures c.head.ensures

pub meet-requires-clause-fresh : goal.meet-requires-clause-fresh
meet-requires-clause-fresh c = c.in_ok-is_fresh.ensures.fresh c.if-not-branch.false

pub meet-requires-clause-enabled : goal.meet-requires-clause-enabled
meet-requires-clause-enabled c = ap (λ (p : Sparse). enabled_on p c.args.instance) (sym c.problem.ensures) ∙ sym c.is_enabled.ensures ∙ c.if-not-is_enabled.false
