use Rattle.std.proofs.Common.{ap, ◌∙◌}
use Rattle.fractions.specs.Number.{◌+ℚ◌}
use Rattle.tableau_rows.proofs.RowLaws.{move_to_value}
use Rattle.tableau_rows.proofs.rows.move_to.Goals as goal

pub returns-clause-value : goal.returns-clause-value
returns-clause-value c = move_to_value c.args.values.now c.move_others.new.values c.args.rows.now c.args.b c.args.e c.args.w.now c.in_ok-entering.entering c.args.bound.now
    c.requires.b_within c.requires.e_within c.requires.apart c.move_others.auto.values c.requires.long (c.in_ok-entering.ensures.value ∙ ap (λ z. z +ℚ c.args.w.now) c.number_at.ensures) c.in_ok-move_others.ensures.value
