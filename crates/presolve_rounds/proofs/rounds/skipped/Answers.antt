use Rattle.std.proofs.Common.{List, [], length, refl, ap, ◌∙◌}
use Rattle.std.specs.List.{filter}
use Rattle.presolve_model.specs.declared.instance.Rule.{Rule}
use Rattle.presolve_model.specs.Enabled.{enabled_on}
use Rattle.presolve_model.specs.Order.{reduction_order}
use Rattle.presolve_model.specs.Tallies.{Open, open_on}
use Rattle.place_laws.specs.Choosing.{instances_of}
use Rattle.place_laws.specs.Marks.{Marks}
use Rattle.place_laws.proofs.Choosing.{enabled_same_there, noted_each}
use Rattle.presolve_rounds.proofs.rounds.skipped.Goals as goal

pub returns : goal.returns
returns c =
    let o : Open = open_on c.args.tally.now in
    let m : Marks = record { noted = c.args.parts.now; stirred = c.args.parts.now; roused = c.args.parts.now; asleep = [] } in
    c.count.ensures ∙ ap length (c.as_slice.ensures.value ∙ c.in_ok-found.ensures
    ∙ ap (λ (rs : List Rule). filter (enabled_on c.args.problem.now) (instances_of o c.args.problem.now c.in_ok-ids.ids rs)) c.reduction_rules.ensures
    ∙ enabled_same_there o c.args.problem.now c.in_ok-ids.ids c.in_ok-ids.ensures.sorted
    (noted_each o c.args.problem.now c.args.parts.now m c.in_ok-ids.ids c.is_sparse.ensures (c.in_ok-ids.ensures.holds m refl refl refl) refl refl refl c.requires.reached) reduction_order)
