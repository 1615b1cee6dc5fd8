-- Rows that the bounds keep.
use Rattle.std.proofs.Common.{ℕ}
use Rattle.fractions.specs.Number.{zero_ℚ}
use Rattle.lp_model.specs.declared.program.Sense.{Sense}
use Rattle.lp_model.specs.declared.program.Sense.TheVariants.{Min}
use Rattle.lp_model.specs.LinearProgram.{LinearProgram, value_at}
use Rattle.lp_model.specs.Reductions.{Reduces, ReducesPairs}
use Rattle.lp_theory.specs.Activities.{least, greatest}
use Rattle.lp_model.specs.Edits.{without_row}
use Rattle.lp_theory.proofs.ActivityLaws.{least-value, greatest-value}
use Rattle.lp_theory.proofs.Carrying.{pairs_of}
use Rattle.lp_theory.proofs.RowBounds.{at_least_from, at_most_from}
use Rattle.lp_theory.proofs.Pairs.{row_pairs}
use Rattle.lp_theory.proofs.Steps.{redundant_row}
use Rattle.lp_rows.specs.RedundantRow.{IsRedundantRow, redundant_row_deleted, undo_redundant_row}

pub row_kept : (d : Sense) (M : LinearProgram) (i : ℕ) → IsRedundantRow M i → Reduces d M (redundant_row_deleted M i) (λ x. x) zero_ℚ
row_kept d M i r = redundant_row d M i (λ x h. record {
  low = at_least_from (M.lower_side i) (least M i) (value_at M i x) r.lower (least-value M i x h.columns);
  high = at_most_from (M.upper_side i) (greatest M i) (value_at M i x) r.upper (greatest-value M i x h.columns);
})

pub row_kept_pairs : (M : LinearProgram) (i : ℕ) → IsRedundantRow M i → ReducesPairs Min M (redundant_row_deleted M i) (undo_redundant_row i)
row_kept_pairs M i r = pairs_of M (without_row M i) (undo_redundant_row i) (row_pairs M i (row_kept Min M i r).lifts)
