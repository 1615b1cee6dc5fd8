-- The lines in the group of a line, by the rule.
use Rattle.std.specs.Prelude.{ℕ, List}
use Rattle.line_groups.specs.Groups.{group_at, LineGroups}
use Rattle.presolve_model.specs.declared.instance.Rule.{Rule}
use Rattle.presolve_model.specs.declared.instance.Rule.TheVariants as rule

abbrev pub ids_beside : LineGroups → Rule → ℕ → List ℕ
ids_beside g rule.ParallelRows i = group_at g.rows i
ids_beside g other j = group_at g.columns j
