use Rattle.std.proofs.Common.{◌≢◌, ℕ, ◌<◌, get_or}
use Rattle.lp_model.specs.Meaning.{no_column}
use Rattle.lp_model.proofs.plain.is_no_column.Given as goal

abbrev pub invariant-loop-column : goal.invariant-loop-column
invariant-loop-column l = (j : ℕ) → j < l.column-index → l.name ≢ (get_or l.columns j no_column).name
