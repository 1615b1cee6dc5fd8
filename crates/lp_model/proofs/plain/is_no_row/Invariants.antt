use Rattle.std.proofs.Common.{◌≢◌, ℕ, ◌<◌, get_or}
use Rattle.lp_model.specs.Meaning.{no_row}
use Rattle.lp_model.proofs.plain.is_no_row.Given as goal

abbrev pub invariant-loop-row : goal.invariant-loop-row
invariant-loop-row l = (i : ℕ) → i < l.row-index → l.name ≢ (get_or l.rows i no_row).name
