use Rattle.std.proofs.Common.{rules, ◌≡◌, [], length, sym, ap, ◌∙◌, subst}
use Rattle.std.proofs.lemmas.List.{nil_from_length}
use Rattle.problem_model.specs.Sparse.{Sparse}
use Rattle.place_laws.specs.Choosing.{all_around, AreSorted, HasEach}
use Rattle.place_laws.proofs.Choosing.{all_each, all_sorted}
use Rattle.presolve_model.specs.Tallies.{open_on}
use Rattle.round_tasks.specs.Changes.{NoticesAll}
use Rattle.worker_rounds.proofs.Raced.{still_each}
use Rattle.worker_rounds.proofs.racing.ids_on.Goals as goal

pub returns-then-is_empty-clause-each : goal.returns-then-is_empty-clause-each
returns-then-is_empty-clause-each c =
    let empty : length c.in_ok-changed.changed.items ≡ 0 = search rules in
    let none : c.in_ok-changed.changed.items ≡ [] = nil_from_length c.in_ok-changed.changed.items empty in
    still_each c.args.looking.version c.args.book.now c.in_ok-before.before c.args.looking.ids c.requires.later c.in_ok-before.ensures.stamps
    (subst (NoticesAll c.in_ok-before.before c.args.book.now.problem) none (subst (λ (q : Sparse). NoticesAll c.in_ok-before.before q c.in_ok-changed.changed.items) c.problem.ensures c.in_ok-changed.ensures))
    c.requires.looks.each

pub returns-clause-sorted : goal.returns-clause-sorted
returns-clause-sorted c = subst AreSorted (sym c.in_ok-all.ensures) (all_sorted c.problem-2.result.now)

pub returns-clause-each : goal.returns-clause-each
returns-clause-each c =
    let p = c.args.book.now.problem in
    subst (HasEach (open_on c.args.book.now.tally) p) (sym (c.in_ok-all.ensures ∙ ap all_around c.problem-2.ensures)) (all_each (open_on c.args.book.now.tally) p)
