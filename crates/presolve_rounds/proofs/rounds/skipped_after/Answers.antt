use Rattle.std.proofs.Common.{◌≡◌, sym, ◌∙◌, subst}
use Rattle.std.specs.Prelude.{IfOk}
use Rattle.line_groups.specs.Groups.{AreGroupsOf}
use Rattle.problem_model.specs.Sparse.{Sparse}
use Rattle.presolve_model.specs.Stuck.{skipped_on}
use Rattle.presolve_model.specs.Tallies.{Counts, open_on}
use Rattle.round_marks.specs.Marking.{all_marked, AreReached}
use Rattle.presolve_rounds.proofs.Running.{marked_reached}
use Rattle.presolve_rounds.proofs.rounds.skipped_after.Goals as goal

pub skipped-requires : goal.skipped-requires
skipped-requires c =
    let d = c.args.book.now in
    let parts : c.as_slice.result.now ≡ all_marked c.args.watch.now.marks = c.as_slice.ensures.value ∙ c.in_ok-parts.ensures in
    record {
      groups = subst (AreGroupsOf c.args.groups.now) (sym c.problem.ensures) c.requires.groups;
      reached = subst (λ (t : Counts). AreReached (open_on t) c.problem.result.now c.as_slice.result.now) (sym c.tally.ensures)
          (subst (λ (p : Sparse). AreReached (open_on d.tally) p c.as_slice.result.now) (sym c.problem.ensures) (subst (AreReached (open_on d.tally) d.problem) (sym parts) (marked_reached d c.args.watch.now.marks c.requires.marked)));
    }

pub returns : goal.returns
returns c = subst (λ (t : Counts). IfOk c.skipped.result (λ skipped. skipped ≡ skipped_on (open_on t) c.args.book.now.problem)) c.tally.ensures
    (subst (λ (p : Sparse). IfOk c.skipped.result (λ skipped. skipped ≡ skipped_on (open_on c.tally.result.now) p)) c.problem.ensures c.skipped.ensures)
