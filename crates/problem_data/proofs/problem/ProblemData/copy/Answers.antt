use Rattle.std.proofs.Common.{◌∙◌, sym, subst}
use Rattle.problem_model.specs.Problems.{IsSparse}
use Rattle.problem_model.specs.Sparse.{Sparse}
use Rattle.problem_data.proofs.problem.ProblemData.copy.Goals as goal

pub new-requires : goal.new-requires
new-requires c = subst (λ (p : Sparse). IsSparse p)
    (λ t. record {
      matrix = record { rows = sym (c.in_ok-rows.ensures ∙ c.rows.ensures) t; columns = sym (c.in_ok-columns.ensures ∙ c.columns.ensures) t };
      sides = sym (c.in_ok-sides.ensures.items ∙ c.all_sides.ensures.value) t;
      bounds = sym (c.in_ok-bounds.ensures.items ∙ c.all_bounds.ensures.value) t;
      costs = sym (c.in_ok-costs.ensures.items ∙ c.costs.ensures.value) t;
      offset = sym c.offset.ensures t;
      constant = sym c.constant.ensures t;
    })
    c.is_sparse.ensures
