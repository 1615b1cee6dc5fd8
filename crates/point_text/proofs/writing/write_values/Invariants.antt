use Rattle.std.proofs.Common.{◌≡◌, ◌++◌, drop, map}
use Rattle.point_text.specs.SolutionText.{solution_text_by}
use Rattle.point_text.proofs.writing.write_values.Given as goal

abbrev pub invariant-loop-id : goal.invariant-loop-id
invariant-loop-id g l = l.out.items ++ solution_text_by g.T.Textual.texts.writing (drop l.id (g.L.Labels.column_names l.labels)) (drop l.id (map g.T.Exact.number l.point)) ≡ solution_text_by g.T.Textual.texts.writing (g.L.Labels.column_names l.labels) (map g.T.Exact.number l.point)
