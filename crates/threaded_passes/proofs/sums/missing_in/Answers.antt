use Rattle.std.proofs.Common.{ap, sym, subst, ◌∙◌}
use Rattle.std.specs.List.{All}
use Rattle.std.proofs.lemmas.List.Elements.{All-push}
use Rattle.threaded_passes.specs.declared.sums.RowSums.{RowSums}
use Rattle.threaded_passes.specs.Sums.{AreSumsIn}
use Rattle.threaded_passes.proofs.sums.missing_in.Goals.{in-Some+in_ok-push, in_default}
use Rattle.threaded_passes.proofs.sums.missing_in.Goals as goal

pub loop-place-preserved : goal.loop-place-preserved
loop-place-preserved c =
    let P : RowSums → Type 0 = AreSumsIn c.args.problem.now in
    elim c.match-missing.branch [
      | in-Some+in_ok-push w ↦ subst (All P) (sym (ap (λ v. v.items) w.made-is ∙ w.in_ok-push.ensures.items)) (All-push P c.loop-place.made.items w.in-Some.row c.loop-place.invariant w.in-Some.ensures)
      | in_default w ↦ subst (All P) (sym (ap (λ v. v.items) w.made-is)) c.loop-place.invariant
    ]
