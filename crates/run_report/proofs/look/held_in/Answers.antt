use Rattle.std.proofs.Common.{◌∙◌, sym, subst}
use Rattle.presolve_model.specs.Ledger.{Ledger}
use Rattle.presolve_model.specs.Stuck.{enabled_reductions}
use Rattle.presolve_model.specs.Tallies.{open_on}
use Rattle.run_report.specs.Holding.{AreHeld}
use Rattle.run_report.proofs.Holding.{each_held}
use Rattle.run_report.proofs.look.held_in.Goals as goal

pub answers-requires : goal.answers-requires
answers-requires c = each_held c.args.end c.args.book.now c.as_slice.result.now c.requires (c.as_slice.ensures.value ∙ c.in_ok-found.ensures ∙ (λ t. enabled_reductions (open_on (c.tally.ensures t)) (c.problem.ensures t)))

pub returns-clause-held : goal.returns-clause-held
returns-clause-held c =
    let held : AreHeld c.args.book.now c.in_ok-held.held.items = record {
      all = c.in_ok-held.ensures.all ∙ c.as_slice.ensures.value ∙ c.in_ok-found.ensures ∙ (λ t. enabled_reductions (open_on (c.tally.ensures t)) (c.problem.ensures t));
      why = c.in_ok-held.ensures.why;
    } in
    subst (λ (x : Ledger). AreHeld x c.in_ok-held.held.items) (sym c.answers.ensures.book) held
