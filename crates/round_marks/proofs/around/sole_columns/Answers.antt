use Rattle.std.proofs.Common.{◌++◌, ◌∙◌}
use Rattle.round_marks.specs.Soles.{soles}
use Rattle.round_marks.proofs.Sorting.{soles_led}
use Rattle.round_marks.proofs.around.sole_columns.Goals as goal

pub returns-clause-holds : goal.returns-clause-holds
returns-clause-holds c =
    let p = c.args.problem.now in
    soles_led p c.args.parts.now c.in_ok-columns.columns.items c.args.rows.now c.add_soles.new.ids.items c.add_soles_of_rows.new.ids.items c.sort_ids.new.ids.items c.in_ok-columns.ensures c.requires
    (c.in_ok-add_soles.ensures ∙ (λ t. c.new-ids.ensures.items t ++ soles p (c.as_slice.ensures.value t))) c.in_ok-add_soles_of_rows.ensures c.in_ok-sort_ids.ensures.kept
