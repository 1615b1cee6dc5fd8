use Rattle.std.proofs.Common.{ap, ◌∙◌, subst, arith}
use Rattle.line_groups.specs.Groups.{AreGroupsOf}
use Rattle.round_marks.specs.Forming.{forms_of}
use Rattle.round_marks.specs.Marking.{Watched}
use Rattle.presolve_rounds.proofs.Running.{committed_grown, stuck_after}
use Rattle.presolve_rounds.proofs.rounds.sweep.Goals as goal

pub round_over_all-requires-clause-groups : goal.round_over_all-requires-clause-groups
round_over_all-requires-clause-groups g c = subst (AreGroupsOf c.in_ok-groups.groups) c.problem.ensures c.in_ok-groups.ensures

pub round_over_all-requires-clause-forms : goal.round_over_all-requires-clause-forms
round_over_all-requires-clause-forms g c = ap (λ (w : Watched). w.forms) c.in_ok-watch.ensures ∙ ap forms_of c.problem-2.ensures

pub swept_to-requires-clause-grown : goal.swept_to-requires-clause-grown
swept_to-requires-clause-grown g c = let more = committed_grown c.args.book.now c.round_over_all.new.book c.in_ok-round_over_all.ensures.committed in omega (arith, more, c.applied-applied.ensures)

pub swept_to-requires-clause-stuck : goal.swept_to-requires-clause-stuck
swept_to-requires-clause-stuck g c = λ none long. stuck_after c.args.book.now c.round_over_all.new.book c.requires.undecided c.requires.room c.in_ok-round_over_all.ensures.committed none (long ∙ c.applied-applied.ensures)
