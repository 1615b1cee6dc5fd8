use Rattle.entry_lines.proofs.LiveTerms.{whole_column_found}
use Rattle.problem_data.proofs.problem.ProblemData.whole_column.Goals as goal

pub returns : goal.returns
returns c = whole_column_found (λ t. t.now) c.args.self.now c.args.j c.columns.result.now c.whole_line.result c.is_sparse.ensures c.columns.ensures c.whole_line.ensures
