-- Lines that are multiples of a line: those of its group.
use Rattle.std.proofs.Common.{◌≡◌, ℕ, true, length, map, sym, true≢false}
use Rattle.std.specs.List.{filter, range_with_len}
use Rattle.problem_model.specs.Problems.{IsSparse}
use Rattle.problem_model.specs.Sparse.{Sparse}
use Rattle.problem_laws.proofs.AtIds.{column_inside, row_inside}
use Rattle.parallel_laws.proofs.ParallelColumns as parallel_columns
use Rattle.parallel_laws.proofs.ParallelRows as parallel_rows
use Rattle.line_groups.specs.Groups.{AreGroupsOf, group_at, LineGroups}
use Rattle.sorted_ids.proofs.Passing.{same_of_all}
use Rattle.line_groups.proofs.Sharing.{columns_ascend, parallel_columns_share, parallel_rows_share, rows_ascend}
use Rattle.presolve_model.specs.declared.instance.Instance.TheVariants as at
use Rattle.presolve_model.specs.declared.instance.Reduction.TheVariants.{ParallelColumns, ParallelRows}
use Rattle.presolve_model.specs.declared.instance.Rule.{Rule}
use Rattle.presolve_model.specs.declared.instance.Rule.TheVariants as rule
use Rattle.presolve_model.specs.Enabled.{enabled_on}
use Rattle.presolve_model.specs.Instances.{beside_at, goes_by_groups, instances_from}
use Rattle.presolve_model.specs.Tallies.{Open}
use Rattle.instances.specs.Beside.{ids_beside}

module _ (g : LineGroups) (p : Sparse) (s : IsSparse p) (h : AreGroupsOf g p) where
  rows_beside : (i : ℕ) → filter (enabled_on p) (map (λ k. at.Reduction (ParallelRows i k)) (group_at g.rows i)) ≡ filter (enabled_on p) (map (λ k. at.Reduction (ParallelRows i k)) (range_with_len 0 (length p.matrix.rows)))
  rows_beside i = same_of_all (enabled_on p) (λ k. at.Reduction (ParallelRows i k)) (length p.matrix.rows) (group_at g.rows i) (rows_ascend g p h i) (λ k on. (row_inside p k (parallel_rows.said p i k on).second_live, (parallel_rows_share g p i k s h on).0))

  columns_beside : (j : ℕ) → filter (enabled_on p) (map (λ k. at.Reduction (ParallelColumns j k)) (group_at g.columns j)) ≡ filter (enabled_on p) (map (λ k. at.Reduction (ParallelColumns j k)) (range_with_len 0 (length p.matrix.columns)))
  columns_beside j = same_of_all (enabled_on p) (λ k. at.Reduction (ParallelColumns j k)) (length p.matrix.columns) (group_at g.columns j) (columns_ascend g p h j) (λ k on. (column_inside p k (parallel_columns.said p j k on).second_live, (parallel_columns_share g p j k s h on).0))

  -- of such a rule
  pub lines_beside : (opens : Open) (r : Rule) (i : ℕ) → goes_by_groups r ≡ true → filter (enabled_on p) (map (beside_at r i) (ids_beside g r i)) ≡ filter (enabled_on p) (instances_from opens p r i)
  lines_beside opens rule.ParallelRows i t = rows_beside i
  lines_beside opens rule.ParallelColumns j t = columns_beside j
  lines_beside opens r i t = absurd (true≢false (sym t))
