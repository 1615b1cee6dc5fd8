use Rattle.std.proofs.Common.{◌<◌, ◌≤◌, length, sym, ap, ap₂, ◌∙◌, subst}
use Rattle.fractions.specs.Number.{zero_ℚ}
use Rattle.lp_model.specs.Meaning.{column_at, no_column}
use Rattle.lp_model.specs.Turning.{signed}
use Rattle.lp_model.specs.declared.program.ColumnDef.{ColumnDef}
use Rattle.lp_model.proofs.Sums.{read_at}
use Rattle.tableau_laws.proofs.Joins.{joined-left}
use Rattle.simplex_tableau.proofs.Firsts.{joined-past}
use Rattle.simplex_tableau.proofs.starting.first_price.Goals as goal

pub returns-then-k-columns : goal.returns-then-k-columns
returns-then-k-columns c =
    let l : c.args.k < length c.args.program.now.columns = subst (λ n. c.args.k < n) (ap length c.columns-columns.ensures) c.if-k-columns.true in
    c.minimized_cost.ensures
    ∙ ap₂ signed c.sense.ensures (ap (λ (d : ColumnDef). d.cost) (read_at _ c.args.program.now.columns c.args.k _ no_column c.columns-columns.ensures c.if-k-columns.true))
    ∙ sym (joined-left (length c.args.program.now.columns) (λ j. signed c.args.program.now.sense (column_at c.args.program.now j).cost) (λ j. zero_ℚ) c.args.k l)

pub returns-else-k-columns : goal.returns-else-k-columns
returns-else-k-columns c =
    let l : length c.args.program.now.columns ≤ c.args.k = subst (λ n. n ≤ c.args.k) (ap length c.columns-columns.ensures) c.if-k-columns.false in
    c.zero.ensures.value ∙ sym (joined-past (length c.args.program.now.columns) zero_ℚ (λ j. signed c.args.program.now.sense (column_at c.args.program.now j).cost) c.args.k l)
