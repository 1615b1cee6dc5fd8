use Rattle.std.proofs.Common.{◌≡◌, ℕ, None}
use Rattle.sparse_problem.specs.KeptRows.{kept_at}
use Rattle.sparse_problem.proofs.kept_rows.nothing_kept.Given as goal

abbrev pub invariant-loop : goal.invariant-loop
invariant-loop l = (i : ℕ) → kept_at l.kept.items i ≡ None
