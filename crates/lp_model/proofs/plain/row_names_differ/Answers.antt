use Rattle.std.proofs.Common.{sym, ◌∙◌}
use Rattle.lp_model.specs.declared.program.RowDef.{RowDef}
use Rattle.lp_model.specs.Meaning.{no_row}
use Rattle.lp_model.proofs.Differing.{differ_first, differ_parts}
use Rattle.lp_model.proofs.Sums.{not_so}
use Rattle.lp_model.proofs.plain.row_names_differ.Goals as goal

pub returns-then-is_no_row : goal.returns-then-is_no_row
returns-then-is_no_row c = (
  λ t. differ_first c.args.objective.now (λ (one : RowDef). one.name) no_row c.args.rows.now (c.is_no_row.ensures.0 c.if-is_no_row.true) (c.rows_differ.ensures.0 t),
  λ h. c.rows_differ.ensures.1 (differ_parts c.args.objective.now (λ (one : RowDef). one.name) no_row c.args.rows.now h).1,
)

pub returns-else-is_no_row : goal.returns-else-is_no_row
returns-else-is_no_row c = (
  λ t. absurd (not_so (sym c.if-is_no_row.false ∙ t)),
  λ h. c.is_no_row.ensures.1 (differ_parts c.args.objective.now (λ (one : RowDef). one.name) no_row c.args.rows.now h).0,
)
