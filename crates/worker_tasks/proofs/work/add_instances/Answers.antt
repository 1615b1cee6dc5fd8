use Rattle.std.proofs.Common.{◌≡◌, ◌-◌, List, [], ◌∷◌, ◌++◌, length, take, drop, sym, ap, ◌∙◌, subst, append_assoc}
use Rattle.std.specs.List.{Contains}
use Rattle.std.proofs.lemmas.List.Elements.{Contains-append_left}
use Rattle.presolve_model.specs.declared.instance.Instance.{Instance}
use Rattle.presolve_model.specs.Given.{Proposed}
use Rattle.worker_tasks.specs.Work.{instances_in}
use Rattle.worker_tasks.proofs.Commits.{first_and_rest}
use Rattle.worker_tasks.proofs.work.add_instances.Goals as goal

pub returns-in_err-push-clause-kept : goal.returns-in_err-push-clause-kept
returns-in_err-push-clause-kept c = λ e k. subst (λ (es : List Instance). Contains es e) (sym c.in_err-push.ensures.items) (c.loop-rest.invariant.kept e k)

pub loop-rest-preserved : goal.loop-rest-preserved
loop-rest-preserved c =
    let rest : List Proposed = c.loop-rest.rest.now in
    let x = c.proposal-item.result in
    let split : x ∷ take (length rest - 1) (drop 1 rest) ≡ rest = ap (λ (y : Proposed). y ∷ take (length rest - 1) (drop 1 rest)) c.proposal-item.is ∙ first_and_rest rest x c.in-len1-up.len_at_least in
    record {
      kept = λ e k. subst (λ (es : List Instance). Contains es e) (sym c.in_ok-push.ensures.items) (Contains-append_left c.loop-rest.found.items _ e (c.loop-rest.invariant.kept e k));
      added = ap (λ (es : List Instance). es ++ instances_in (take (length rest - 1) (drop 1 rest))) c.in_ok-push.ensures.items
          ∙ append_assoc c.loop-rest.found.items (c.instance.result ∷ []) (instances_in (take (length rest - 1) (drop 1 rest)))
          ∙ ap (λ (i : Instance). c.loop-rest.found.items ++ i ∷ instances_in (take (length rest - 1) (drop 1 rest))) c.instance.ensures.value
          ∙ ap (λ (ps : List Proposed). c.loop-rest.found.items ++ instances_in ps) split
          ∙ c.loop-rest.invariant.added;
    }
