use Rattle.std.proofs.Common.{◌≡◌, ◌∷◌, true, ap, sym, subst, ◌∙◌}
use Rattle.std.specs.List.{All}
use Rattle.lp_model.specs.declared.terms.Term.{Term}
use Rattle.problem_model.specs.declared.edit.Edit.TheVariants as edit
use Rattle.problem_model.specs.Problems.{row_at}
use Rattle.entry_lines.specs.Putting.{entries_set}
use Rattle.problem_commits.proofs.GivingBack.{run_goes_on, run_live, run_same}
use Rattle.problem_commits.proofs.entries.set_run.Goals as goal

pub set_terms-requires-clause-rows : goal.set_terms-requires-clause-rows
set_terms-requires-clause-rows c = subst (All (λ (t : Term). (row_at c.args.problem.now t.id).live ≡ true)) (sym c.as_slice.ensures.value)
    (run_live c.args.problem.now c.args.entry.now.column c.first_run.new.terms.items (edit.SetEntry c.args.entry.now.row c.args.entry.now.column c.args.entry.now.value ∷ c.args.after.now) c.in_ok-left.left.now c.in_ok-left.ensures.run.whole c.requires)

pub returns-clause-same : goal.returns-clause-same
returns-clause-same c = run_same c.args.problem.now c.set_terms.new.problem c.args.entry.now.column c.first_run.new.terms.items
    (edit.SetEntry c.args.entry.now.row c.args.entry.now.column c.args.entry.now.value ∷ c.args.after.now) c.in_ok-left.left.now c.in_ok-left.ensures.run.whole
    (c.in_ok-set_terms.ensures.set ∙ ap (entries_set c.args.problem.now c.args.entry.now.column) c.as_slice.ensures.value)

pub returns-clause-may : goal.returns-clause-may
returns-clause-may c = run_goes_on c.args.problem.now c.set_terms.new.problem c.args.entry.now.column c.first_run.new.terms.items
    (edit.SetEntry c.args.entry.now.row c.args.entry.now.column c.args.entry.now.value ∷ c.args.after.now) c.in_ok-left.left.now c.in_ok-left.ensures.run.whole
    (c.in_ok-set_terms.ensures.set ∙ ap (entries_set c.args.problem.now c.args.entry.now.column) c.as_slice.ensures.value) c.requires
