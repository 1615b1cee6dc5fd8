use Rattle.std.proofs.Common.{ap, ◌∙◌}
use Rattle.fractions.specs.Division.{◌/ℚ◌}
use Rattle.tableau_rows.proofs.RowLaws.{turn_value}
use Rattle.tableau_rows.proofs.rows.turn.Goals as goal

pub returns-clause-value : goal.returns-clause-value
returns-clause-value c = turn_value c.args.row.now c.turn_others.new.row c.args.b c.args.e c.number_at-divisor.result c.zero.result c.in_ok-inverse.inverse
    c.requires.b_within c.requires.e_within c.requires.apart c.turn_others.auto.row c.number_at-divisor.ensures c.zero.ensures.value
    (c.in_ok-inverse.ensures.value ∙ ap (λ y. y /ℚ c.number_at-divisor.result) c.one.ensures.value) c.in_ok-turn_others.ensures.value
