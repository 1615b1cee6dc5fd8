use Rattle.entry_lines.proofs.LiveTerms.{whole_row_found}
use Rattle.problem_data.proofs.problem.ProblemData.whole_row.Goals as goal

pub returns : goal.returns
returns c = whole_row_found (λ t. t.now) c.args.self.now c.args.i c.rows.result.now c.whole_line.result c.is_sparse.ensures c.rows.ensures c.whole_line.ensures
