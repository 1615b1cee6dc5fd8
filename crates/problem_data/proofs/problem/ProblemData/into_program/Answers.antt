use Rattle.std.proofs.Common.{◌∙◌}
use Rattle.problem_model.specs.Programs.{written_columns, written_rows}
use Rattle.problem_data.proofs.WrittenRows.{named_by, written_named}
use Rattle.problem_data.proofs.problem.ProblemData.into_program.Goals as goal

pub new-requires : goal.new-requires
new-requires c =
    let given = c.args.original in
    let p = c.args.self in
    let names = c.into_parts-objective.ensures in
    let parts = c.into_parts-row_lines.ensures in
    named_by _ given.objective _ (written_rows given.rows p.matrix.rows p.sides) _ (written_columns given.sense p.matrix.rows given.columns p.matrix.columns p.bounds p.costs)
    names.objective
    (c.in_ok-rows.ensures ∙ (λ t. written_rows ((c.into_vec.ensures ∙ names.rows) t) ((c.as_slice.ensures.value ∙ parts.rows) t) ((c.as_slice-2.ensures.value ∙ parts.sides) t)))
    (c.in_ok-columns.ensures ∙ (λ t. written_columns (c.sense-sense.ensures t) ((c.as_slice-4.ensures.value ∙ parts.rows) t) ((c.into_vec-2.ensures ∙ names.columns) t) (parts.columns t) ((c.as_slice-6.ensures.value ∙ parts.bounds) t) ((c.as_slice-7.ensures.value ∙ parts.costs) t)))
    (written_named given.objective given.sense p.matrix.rows given.rows p.matrix.rows p.sides given.columns p.matrix.columns p.bounds p.costs names.named)
