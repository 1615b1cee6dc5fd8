use Rattle.std.proofs.Common.{List, ap, ◌∙◌}
use Rattle.std.specs.List.{filter}
use Rattle.presolve_model.specs.declared.instance.Rule.{Rule}
use Rattle.presolve_model.specs.Enabled.{enabled_on}
use Rattle.presolve_model.specs.Order.{reduction_order}
use Rattle.presolve_model.specs.Tallies.{Open, open_on}
use Rattle.place_laws.specs.Choosing.{all_around, Around, instances_of}
use Rattle.place_laws.proofs.Choosing.{all_each, all_sorted, enabled_same_there}
use Rattle.run_report.proofs.look.enabled_in.Goals as goal

pub returns : goal.returns
returns c =
    let p = c.args.problem.now in
    let o : Open = open_on c.args.tally.now in
    c.in_ok-found.ensures
    ∙ ap (λ (rs : List Rule). filter (enabled_on p) (instances_of o p c.in_ok-all.all rs)) c.reduction_rules.ensures
    ∙ ap (λ (n : Around). filter (enabled_on p) (instances_of o p n reduction_order)) c.in_ok-all.ensures
    ∙ enabled_same_there o p (all_around p) (all_sorted p) (all_each o p) reduction_order
