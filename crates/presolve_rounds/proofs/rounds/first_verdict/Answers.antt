use Rattle.std.proofs.Common.{◌≡◌, List, ap, ◌∙◌, subst}
use Rattle.std.specs.List.{filter}
use Rattle.presolve_model.specs.declared.instance.Instance.{Instance}
use Rattle.presolve_model.specs.declared.instance.Rule.{Rule}
use Rattle.presolve_model.specs.Enabled.{enabled_on}
use Rattle.presolve_model.specs.Order.{verdict_order}
use Rattle.presolve_model.specs.Tallies.{Open, open_on}
use Rattle.presolve_model.specs.Ordered.{enabled_verdicts}
use Rattle.place_laws.specs.Choosing.{all_around, Around, instances_of}
use Rattle.place_laws.proofs.Choosing.{all_each, all_sorted, enabled_same_there}
use Rattle.presolve_rounds.specs.Running.{IsFirst}
use Rattle.presolve_rounds.proofs.rounds.first_verdict.Goals as goal

pub returns : goal.returns
returns c =
    let p = c.args.problem.now in
    let o : Open = open_on c.args.tally.now in
    let found : c.as_slice.result.now ≡ enabled_verdicts o p =
    c.as_slice.ensures.value ∙ c.in_ok-found.ensures
    ∙ ap (λ (rs : List Rule). filter (enabled_on p) (instances_of o p c.in_ok-all.all rs)) c.verdict_rules.ensures
    ∙ ap (λ (n : Around). filter (enabled_on p) (instances_of o p n verdict_order)) c.in_ok-all.ensures
    ∙ enabled_same_there o p (all_around p) (all_sorted p) (all_each o p) verdict_order in
    subst (λ (es : List Instance). IsFirst es c.first_of.result) found c.first_of.ensures
