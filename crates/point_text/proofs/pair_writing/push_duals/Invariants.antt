use Rattle.std.proofs.Common.{◌≡◌, ◌++◌, drop, map}
use Rattle.point_text.specs.SolutionText.{solution_text_by}
use Rattle.point_text.specs.PairText.{duals_line}
use Rattle.point_text.proofs.pair_writing.push_duals.Given as goal

abbrev pub invariant-loop-id : goal.invariant-loop-id
invariant-loop-id g l = l.out.items ++ solution_text_by g.T.Textual.texts.writing (drop l.id (g.L.Labels.row_names l.labels)) (drop l.id (map g.T.Exact.number l.duals)) ≡ l.fn.out.items ++ (duals_line ++ solution_text_by g.T.Textual.texts.writing (g.L.Labels.row_names l.labels) (map g.T.Exact.number l.duals))
