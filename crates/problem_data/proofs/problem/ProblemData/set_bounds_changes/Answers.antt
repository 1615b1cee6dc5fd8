use Rattle.std.proofs.Common.{◌<◌, ◌∙◌, length, sym, ap, subst}
use Rattle.problem_model.specs.declared.part.Part.TheVariants as part
use Rattle.problem_model.specs.Sparse.{Sparse}
use Rattle.problem_data.specs.Renumbered.{changes_put}
use Rattle.problem_data.proofs.Renumbering.{bounds_put}
use Rattle.problem_data.proofs.problem.ProblemData.set_bounds_changes.Goals as goal

pub returns : goal.returns
returns c =
    let p : Sparse = record { matrix = record { rows = c.self.inside.rows.items; columns = c.self.inside.columns.items }; sides = c.self.inside.sides.items; bounds = c.self.inside.bounds.items; costs = c.self.inside.costs.items; offset = c.self.inside.offset; constant = c.self.inside.constant } in
    let within : c.args.j < length p.bounds = subst (λ (q : Sparse). c.args.j < length q.bounds) (sym c.self.view_is) c.requires in
    bounds_put p c.args.j c.args.changes c.index_mut-bounds.result.now c.index_mut-bounds.result.now within c.index_mut-bounds.ensures.value ∙ ap (λ (q : Sparse). changes_put q (part.Bounds c.args.j) c.args.changes) c.self.view_is
