use Rattle.std.proofs.Common.{◌<◌, ◌∙◌, length, sym, ap, subst}
use Rattle.problem_model.specs.declared.part.Part.TheVariants as part
use Rattle.problem_model.specs.Sparse.{Sparse}
use Rattle.problem_data.specs.Renumbered.{changes_put}
use Rattle.problem_data.proofs.Renumbering.{sides_put}
use Rattle.problem_data.proofs.problem.ProblemData.set_sides_changes.Goals as goal

pub returns : goal.returns
returns c =
    let p : Sparse = record { matrix = record { rows = c.self.inside.rows.items; columns = c.self.inside.columns.items }; sides = c.self.inside.sides.items; bounds = c.self.inside.bounds.items; costs = c.self.inside.costs.items; offset = c.self.inside.offset; constant = c.self.inside.constant } in
    let within : c.args.i < length p.sides = subst (λ (q : Sparse). c.args.i < length q.sides) (sym c.self.view_is) c.requires in
    sides_put p c.args.i c.args.changes c.index_mut-sides.result.now c.index_mut-sides.result.now within c.index_mut-sides.ensures.value ∙ ap (λ (q : Sparse). changes_put q (part.Sides c.args.i) c.args.changes) c.self.view_is
