use Rattle.problem_model.specs.Sparse.{Sparse}
use Rattle.problem_data.proofs.Edited.{column_gone, column_live}
use Rattle.problem_data.proofs.problem.ProblemData.delete_column.Goals as goal

pub invariant_of-self : goal.invariant_of-self
invariant_of-self c =
    let p : Sparse = record { matrix = record { rows = c.self.inside.rows.items; columns = c.self.inside.columns.items }; sides = c.self.inside.sides.items; bounds = c.self.inside.bounds.items; costs = c.self.inside.costs.items; offset = c.self.inside.offset; constant = c.self.inside.constant } in
    column_gone p c.args.j c.delete_line.new.others.items c.delete_line.new.lines.items c.self.invariant (column_live p c.args.self.now c.args.j c.self.view_is c.requires) c.delete_line.ensures.others c.delete_line.ensures.lines
