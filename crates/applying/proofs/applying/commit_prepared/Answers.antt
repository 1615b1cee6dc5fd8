use Rattle.std.proofs.Common.{◌≡◌, ◌∙◌, sym, ap, subst}
use Rattle.problem_model.specs.Allowed.{AreAllowed, EntriesFirst}
use Rattle.problem_model.specs.Offsets.{OffsetFits}
use Rattle.problem_model.specs.Raised.{committed}
use Rattle.problem_model.specs.Writing.{IsWritable}
use Rattle.presolve_model.specs.Changes.{changed}
use Rattle.presolve_model.proofs.ByCases.{reductions_owe}
use Rattle.presolve_model.proofs.Tabled.{writable_changed}
use Rattle.applying.proofs.applying.commit_prepared.Goals as goal

pub commit-requires-clause-allowed : goal.commit-requires-clause-allowed
commit-requires-clause-allowed c = subst (AreAllowed c.args.problem.now) (sym (c.as_slice.ensures.value ∙ c.requires.2.1.2.edits)) (reductions_owe c.args.problem.now c.requires.1 c.is_sparse.ensures c.requires.2.0).allowed

pub commit-requires-clause-fits : goal.commit-requires-clause-fits
commit-requires-clause-fits c = subst (OffsetFits c.args.problem.now.offset) (sym (c.as_slice.ensures.value ∙ c.requires.2.1.2.edits)) c.requires.2.1.0.edits.offset

pub commit-requires-clause-first : goal.commit-requires-clause-first
commit-requires-clause-first c = subst EntriesFirst (sym (c.as_slice.ensures.value ∙ c.requires.2.1.2.edits)) (reductions_owe c.args.problem.now c.requires.1 c.is_sparse.ensures c.requires.2.0).ordered

pub returns-in-Ok-clause-writable : goal.returns-in-Ok-clause-writable
returns-in-Ok-clause-writable c = λ numbers r ready w.
    let is : c.commit.new.problem ≡ changed r c.args.problem.now = c.in-Ok.ensures.ok ∙ ap (committed c.args.problem.now) (c.as_slice.ensures.value ∙ ready.1.2.edits) in
    subst (IsWritable numbers) (sym is) (writable_changed c.args.problem.now r c.is_sparse.ensures ready.0 numbers w ready.1.0 ready.1.1)
