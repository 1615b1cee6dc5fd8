-- K14: what its condition says.
use Rattle.std.proofs.Common.{◌≡◌, ℕ, true}
use Rattle.problem_model.specs.Problems.{column_at, column_entries, row_at}
use Rattle.problem_model.specs.Sparse.{Sparse}
use Rattle.column_laws.specs.SoleEntry.{is_sole_at}
use Rattle.column_laws.specs.SlackColumnSingleton.{enabled}
use Rattle.column_laws.proofs.SlackColumnSingleton.{said}
use Rattle.column_rules.proofs.SoleEntries.{sole_of}

pub row_live : (p : Sparse) (j i : ℕ) → enabled p j i ≡ true → (row_at p i).live ≡ true
row_live p j i e = (said p j i e).row_live

pub column_live : (p : Sparse) (j i : ℕ) → enabled p j i ≡ true → (column_at p j).live ≡ true
column_live p j i e = (said p j i e).column_live

pub sole_there : (p : Sparse) (j i : ℕ) → enabled p j i ≡ true → is_sole_at i (column_entries p j) ≡ true
sole_there p j i e = sole_of i (column_entries p j) (said p j i e).sole_there
