use Rattle.std.proofs.Common.{◌≢◌, sym, ap, ◌∙◌}
use Rattle.fractions.specs.Number.{zero_ℚ, ◌*ℚ◌}
use Rattle.lp_model.specs.Vectors.{vector_of}
use Rattle.lp_model.proofs.Sums.{not_so}
use Rattle.tableau_rows.proofs.RowLaws.{replace_none, replace_value}
use Rattle.tableau_rows.proofs.rows.replace.Goals as goal

pub returns-then-is_zero-clause-value : goal.returns-then-is_zero-clause-value
returns-then-is_zero-clause-value c = replace_none c.args.row.now c.args.line.now c.args.b c.args.e c.requires.apart c.requires.leaving
    (sym c.number_at-multiple.ensures ∙ c.is_zero.ensures.same.0 c.if-is_zero.true)

pub returns-clause-value : goal.returns-clause-value
returns-clause-value c =
    let some : vector_of c.args.row.now c.args.e ≢ zero_ℚ = λ q. not_so (sym c.if-is_zero.false ∙ c.is_zero.ensures.same.1 (c.number_at-multiple.ensures ∙ q)) in
    replace_value c.args.row.now c.gain_others.new.row c.args.line.now c.args.b c.args.e c.number_at-multiple.result c.zero.result c.in_ok-leaving.leaving
    c.requires.b_within c.requires.apart c.gain_others.auto.row (c.requires.long some) some c.number_at-multiple.ensures c.zero.ensures.value
    (c.in_ok-leaving.ensures.value ∙ ap (λ y. c.number_at-multiple.result *ℚ y) c.number_at.ensures) c.in_ok-gain_others.ensures.value
