use Rattle.std.proofs.Common.{◌≡◌, ◌<◌, ◌≤◌, ◌-◌, List, length, ap, ◌∙◌, subst}
use Rattle.fractions.specs.Number.{Number, zero_ℚ}
use Rattle.lp_model.specs.Meaning.{meaning}
use Rattle.tableau_laws.specs.Variables.{joined, variables}
use Rattle.simplex_tableau.specs.Starting.{Lists, IsFirstRow}
use Rattle.simplex_tableau.proofs.Firsts.{if_ok, first_row_none, first_row_some}
use Rattle.simplex_tableau.proofs.starting.first_row.Goals as goal

pub returns-then-k-columns : goal.returns-then-k-columns
returns-then-k-columns c =
    first_row_none (meaning c.args.program.now) c.args.k c.new-then-k-columns.result (subst (λ n. c.args.k < n) (ap length c.columns-columns.ensures) c.if-k-columns.true) (c.new-then-k-columns.ensures ∙ c.new.ensures.items)

pub returns : goal.returns
returns c =
    let n : length c.columns-columns.result.now ≡ length c.args.program.now.columns = ap length c.columns-columns.ensures in
    if_ok c.first_multiples.result _ (λ (r : List Number). IsFirstRow (meaning c.args.program.now) c.args.k r) c.first_multiples.ensures
    (λ r h. first_row_some (meaning c.args.program.now) c.args.k r (subst (λ m. m ≤ c.args.k) n c.if-k-columns.false) c.requires
    (subst (λ m. Lists zero_ℚ (λ j x. x ≡ joined (length c.args.program.now.columns) ((meaning c.args.program.now).coefficient (c.args.k - m)) (λ j. zero_ℚ) j) (variables (meaning c.args.program.now)) r) n h))
