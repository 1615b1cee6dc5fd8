use Rattle.std.proofs.Common.{OnOk, subst, sym}
use Rattle.presolve_model.specs.Ledger.{Ledger}
use Rattle.presolve_model.specs.Tallies.{open_on}
use Rattle.place_laws.specs.Choosing.{visited}
use Rattle.presolve_rounds.specs.Walking.{IsGoing, IsPassed}
use Rattle.presolve_rounds.proofs.pass.pass.Goals as goal

pub visit_all-requires-clause-going : goal.visit_all-requires-clause-going
visit_all-requires-clause-going c = subst (IsGoing c.args.walk.now.frozen.now.value c.args.watch.now) (sym c.keep_sums.ensures) c.requires.going

pub returns : goal.returns
returns c =
    let a = c.args.walk.now.frozen.now.value in
    subst (λ (b : Ledger). OnOk c.visit_all.result (IsPassed a (visited (open_on a.tally) a.problem c.args.ids.now) c.args.watch.now b c.visit_all.new.watch c.visit_all.new.book)) c.keep_sums.ensures c.visit_all.ensures
