use Rattle.std.proofs.Common.{◌≡◌, ◌<◌, ◌≤◌, ◌-◌, length, sym, ap, ap₂, ◌∙◌, subst, IfOk}
use Rattle.fractions.specs.Number.{Number, zero_ℚ}
use Rattle.lp_model.specs.Vectors.{Vector}
use Rattle.lp_model.specs.LinearProgram.{value_at}
use Rattle.lp_model.specs.Meaning.{meaning}
use Rattle.lp_model.proofs.Sums.{read_at}
use Rattle.tableau_laws.specs.Variables.{joined}
use Rattle.tableau_laws.specs.Tableaus.{start_point}
use Rattle.tableau_laws.proofs.Joins.{joined-left}
use Rattle.simplex_tableau.proofs.Firsts.{value_later}
use Rattle.simplex_tableau.proofs.starting.first_value.Goals as goal

pub returns-then-k-numbers-clause-value : goal.returns-then-k-numbers-clause-value
returns-then-k-numbers-clause-value c =
    let n : length c.as_slice-numbers.result.now ≡ length c.args.program.now.columns = ap length c.as_slice-numbers.ensures ∙ c.requires.long in
    c.index-numbers-k.is ∙ read_at _ c.args.point.now c.args.k _ zero_ℚ c.as_slice-numbers.ensures c.if-k-numbers.true
    ∙ ap (λ (x : Vector). x c.args.k) c.requires.point
    ∙ sym (joined-left (length c.args.program.now.columns) (start_point (meaning c.args.program.now)) (joined (length c.args.program.now.rows) (λ i. value_at (meaning c.args.program.now) i (start_point (meaning c.args.program.now))) (λ i. zero_ℚ)) c.args.k (subst (λ m. c.args.k < m) n c.if-k-numbers.true))

pub returns-clause-value : goal.returns-clause-value
returns-clause-value c =
    let n : length c.as_slice-numbers.result.now ≡ length c.args.program.now.columns = ap length c.as_slice-numbers.ensures ∙ c.requires.long in
    subst (λ (z : Number). IfOk c.row_value.result (λ v. v ≡ z))
    (ap₂ (λ m (x : Vector). value_at (meaning c.args.program.now) (c.args.k - m) x) n c.requires.point
    ∙ value_later (meaning c.args.program.now) c.args.k (subst (λ m. m ≤ c.args.k) n c.if-k-numbers.false) c.requires.within)
    c.row_value.ensures.value
