use Rattle.std.proofs.Common.{◌≡◌, ◌<◌, length, min, ℕ, ◌+◌, ◌-◌, ◌^◌}
use Rattle.std.specs.List.{sum_by}
use Rattle.lp_model.specs.declared.program.ColumnDef.{ColumnDef}
use Rattle.presolve_report.proofs.sizes.count_entries.Given as goal

-- what is counted and what is left to count is the whole
pub record Counts (count whole : ℕ) (rest : ℕ) : Type 0 where
  pub small : count < 2 ^ 64
  pub all : min (count + rest) (2 ^ 64 - 1) ≡ min whole (2 ^ 64 - 1)

abbrev pub invariant-loop-rest : goal.invariant-loop-rest
invariant-loop-rest l = Counts l.count (sum_by (λ (column : ColumnDef). length column.entries) l.fn.columns) (sum_by (λ (column : ColumnDef). length column.entries) l.rest)

abbrev pub decreases-loop-rest : goal.decreases-loop-rest
decreases-loop-rest l = length l.rest
