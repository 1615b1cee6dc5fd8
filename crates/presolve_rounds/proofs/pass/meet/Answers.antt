use Rattle.std.proofs.Common.{ℕ, [], ◌∷◌, ap, subst, sym}
use Rattle.presolve_model.specs.Ledger.{Ledger}
use Rattle.presolve_model.specs.Tallies.{open_on}
use Rattle.round_laws.specs.Passing.{Passed}
use Rattle.round_marks.specs.Forming.{AreFormsOf}
use Rattle.round_marks.specs.Marking.{Watched}
use Rattle.presolve_rounds.specs.Walking.{IsMet}
use Rattle.presolve_rounds.proofs.Running.{met_marked}
use Rattle.presolve_rounds.proofs.Sharing.{met_alike}
use Rattle.presolve_rounds.proofs.pass.meet.Goals as goal

pub returns-clause-passed : goal.returns-clause-passed
returns-clause-passed c =
    let a : Ledger = c.args.walk.now.frozen.now.value in
    let w : ℕ = c.args.walk.now.version in
    record {
      passed = subst (λ (v : ℕ). Passed (open_on a.tally) a.problem v (c.args.instance ∷ []) c.args.watch.now.marks c.args.book.now c.mark.new.self.marks c.apply.new.book) c.requires.walk.version
          (met_marked (open_on a.tally) a.problem w c.args.watch.now.marks c.apply.new.self.marks c.mark.new.self.marks c.args.book.now c.apply.new.book c.args.instance c.in_ok-outcome.outcome c.head.result
          c.requires.going.follows c.requires.fresh c.requires.enabled c.in_ok-outcome.ensures.answered c.in_ok-outcome.ensures.outcome c.in_ok-outcome.ensures.left c.in_ok-outcome.ensures.noted c.in_ok-outcome.ensures.stirred c.in_ok-outcome.ensures.asleep
          c.head.ensures (ap (λ (x : Watched). x.marks) c.in_ok-mark.ensures));
      forms = subst (λ (x : Watched). AreFormsOf x.forms c.apply.new.book.problem) (sym c.in_ok-mark.ensures) c.in_ok-outcome.ensures.forms;
    }

pub returns-clause-met : goal.returns-clause-met
returns-clause-met c =
    let w : ℕ = c.args.walk.now.version in
    let f = c.args.walk.now.frozen.now.value in
    subst (IsMet f c.args.instance c.mark.new.self c.args.book.now c.apply.new.book) (sym c.is_applied.ensures)
    (met_alike f w c.args.watch.now.marks c.apply.new.self.marks c.mark.new.self c.args.book.now c.apply.new.book c.args.instance c.in_ok-outcome.outcome c.head.result
    c.requires.going.follows c.requires.fresh c.requires.enabled c.in_ok-outcome.ensures.outcome c.in_ok-outcome.ensures.left c.in_ok-outcome.ensures.noted
    (ap (λ (x : Watched). x.marks) c.in_ok-mark.ensures)
    (subst (λ (x : Watched). AreFormsOf x.forms c.apply.new.book.problem) (sym c.in_ok-mark.ensures) c.in_ok-outcome.ensures.forms) c.requires.walk.version)
