use Rattle.std.proofs.Common.{◌<◌, ◌∙◌, length, sym, ap, subst}
use Rattle.problem_model.specs.declared.part.Part.TheVariants as part
use Rattle.problem_model.specs.Sparse.{Sparse}
use Rattle.problem_data.specs.Renumbered.{changes_put}
use Rattle.problem_data.proofs.Renumbering.{column_kept, column_put}
use Rattle.problem_data.proofs.problem.ProblemData.set_column_changes.Goals as goal

pub returns : goal.returns
returns c =
    let p : Sparse = record { matrix = record { rows = c.self.inside.rows.items; columns = c.self.inside.columns.items }; sides = c.self.inside.sides.items; bounds = c.self.inside.bounds.items; costs = c.self.inside.costs.items; offset = c.self.inside.offset; constant = c.self.inside.constant } in
    let within : c.args.j < length p.matrix.columns = subst (λ (q : Sparse). c.args.j < length q.matrix.columns) (sym c.self.view_is) c.requires in
    column_put p c.args.j c.args.changes c.number_line.new.lines.items within c.number_line.ensures ∙ ap (λ (q : Sparse). changes_put q (part.Col c.args.j) c.args.changes) c.self.view_is

pub invariant_of-self : goal.invariant_of-self
invariant_of-self c =
    let p : Sparse = record { matrix = record { rows = c.self.inside.rows.items; columns = c.self.inside.columns.items }; sides = c.self.inside.sides.items; bounds = c.self.inside.bounds.items; costs = c.self.inside.costs.items; offset = c.self.inside.offset; constant = c.self.inside.constant } in
    let within : c.args.j < length p.matrix.columns = subst (λ (q : Sparse). c.args.j < length q.matrix.columns) (sym c.self.view_is) c.requires in
    column_kept p c.args.j c.args.changes c.number_line.new.lines.items c.self.invariant within c.number_line.ensures
