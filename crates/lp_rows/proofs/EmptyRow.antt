-- Rows without entries.
use Rattle.std.proofs.Common.{◌≡◌, ℕ, pos, sym, refl, ap, [], ◌∷◌, ◌∙◌, subst}
use Rattle.fractions.specs.Ring.{ring, v, num, ◌:*◌}
use Rattle.fractions.specs.Number.{rational, zero_ℚ, ◌*ℚ◌}
use Rattle.fractions.specs.Ends.{Between}
use Rattle.fractions.proofs.Totals.{total-zero}
use Rattle.lp_model.specs.declared.program.Sense.{Sense}
use Rattle.lp_model.specs.declared.program.Sense.TheVariants.{Min}
use Rattle.lp_model.specs.Vectors.{Vector}
use Rattle.lp_model.specs.LinearProgram.{LinearProgram, value_at}
use Rattle.lp_model.specs.Reductions.{Reduces, ReducesPairs}
use Rattle.lp_model.specs.Edits.{without_row}
use Rattle.lp_theory.proofs.Carrying.{pairs_of}
use Rattle.lp_theory.proofs.Pairs.{row_pairs}
use Rattle.lp_theory.proofs.Steps.{redundant_row}
use Rattle.lp_rows.specs.EmptyRow.{IsEmptyRow, empty_row_deleted, undo_empty_row}

empty_value : (M : LinearProgram) (i : ℕ) (x : Vector) → IsEmptyRow M i → value_at M i x ≡ zero_ℚ
empty_value M i x e = total-zero M.columns (λ j. M.coefficient i j *ℚ x j) (λ j l. ap (λ a. a *ℚ x j) (e.empty j l) ∙ ring rational (x j ∷ []) (num (pos 0) :* v 0) (num (pos 0)) refl)

pub empty_row : (d : Sense) (M : LinearProgram) (i : ℕ) → IsEmptyRow M i → Reduces d M (empty_row_deleted M i) (λ x. x) zero_ℚ
empty_row d M i e = redundant_row d M i (λ x h. subst (Between (M.lower_side i) (M.upper_side i)) (sym (empty_value M i x e)) e.within)

pub empty_row_pairs : (M : LinearProgram) (i : ℕ) → IsEmptyRow M i → ReducesPairs Min M (empty_row_deleted M i) (undo_empty_row i)
empty_row_pairs M i e = pairs_of M (without_row M i) (undo_empty_row i) (row_pairs M i (empty_row Min M i e).lifts)
