use Rattle.std.proofs.Common.{◌∙◌, ◌<◌, List, length, map, ap, ap₂, sym, subst}
use Rattle.lp_model.specs.declared.program.RowDef.{RowDef}
use Rattle.lp_model.specs.declared.program.ColumnDef.{ColumnDef}
use Rattle.lp_model.specs.Turning.{signed}
use Rattle.problem_model.specs.Programs.{bounds_of, line_of, sides_of}
use Rattle.entry_lines.specs.Across.{across}
use Rattle.problem_data.proofs.MadeProblems.{parts_sparse}
use Rattle.problem_data.proofs.problem.ProblemData.from_program.Goals as goal

pub new-requires : goal.new-requires
new-requires c = parts_sparse c.args.program.now _ (record {
  entries = c.requires.entries;
  few_rows = c.requires.few_rows;
  few_columns = c.requires.few_columns;
  long = c.in_ok-rows.ensures.long ∙ ap length c.rows.ensures;
  rows = λ i l. c.in_ok-rows.ensures.rows i (subst (λ (rs : List RowDef). i < length rs) (sym c.rows.ensures) l) ∙ ap (λ (cs : List ColumnDef). line_of (across i 0 cs)) c.columns.ensures;
  columns = c.in_ok-columns.ensures ∙ ap (λ (cs : List ColumnDef). map (λ d. line_of d.entries) cs) c.columns-2.ensures;
  sides = c.in_ok-sides.ensures ∙ ap (λ (rs : List RowDef). map sides_of rs) c.rows-2.ensures;
  bounds = c.in_ok-bounds.ensures ∙ ap (λ (cs : List ColumnDef). map bounds_of cs) c.columns-3.ensures;
  costs = c.in_ok-costs.ensures ∙ ap₂ (λ s (cs : List ColumnDef). map (λ d. signed s d.cost) cs) c.sense.ensures c.columns-4.ensures;
  offset = c.zero.ensures.value;
  constant = c.in_sense-constant.ensures ∙ ap₂ (λ s q. signed s q) c.sense-2.ensures c.constant.ensures;
})
