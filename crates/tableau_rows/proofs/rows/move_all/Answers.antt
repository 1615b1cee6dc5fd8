use Rattle.std.proofs.Common.{ap, ◌∙◌}
use Rattle.fractions.specs.Number.{◌+ℚ◌}
use Rattle.tableau_rows.proofs.RowLaws.{move_value}
use Rattle.tableau_rows.proofs.rows.move_all.Goals as goal

pub returns-clause-value : goal.returns-clause-value
returns-clause-value c = move_value c.args.values.now c.move_others.new.values c.args.rows.now c.args.e c.args.w.now c.in_ok-entering.entering
    c.requires.within c.move_others.auto.values c.requires.long (c.in_ok-entering.ensures.value ∙ ap (λ z. z +ℚ c.args.w.now) c.number_at.ensures) c.in_ok-move_others.ensures.value
