-- What a loop reads of a row and its sum.
use Rattle.std.proofs.Common.{◌≡◌, ℕ, ◌<◌, List, length, get_or, sym, ap, ◌∙◌, subst}
use Rattle.std.proofs.lemmas.List.{get_or_default}
use Rattle.std.specs.Prelude.{option_map}
use Rattle.fractions.specs.Number.{Number}
use Rattle.fractions.specs.Room.{Room}
use Rattle.lp_model.specs.Vectors.{Vector}
use Rattle.lp_model.specs.LinearProgram.{LinearProgram}
use Rattle.lp_model.specs.ProgramData.{ProgramData}
use Rattle.lp_model.specs.Meaning.{meaning, no_row}
use Rattle.lp_model.specs.declared.program.RowDef.{RowDef}
use Rattle.lp_model.proofs.Sums.{read_at}
use Rattle.lp_check.specs.declared.sums.RowSum.{RowSum}
use Rattle.lp_check.specs.declared.verdicts.Item.TheVariants.{Row}
use Rattle.lp_prices.specs.Prices.{IsSumIn}
use Rattle.lp_check.specs.Summing.{AreRowSumsIn, past_last}
use Rattle.lp_check.specs.Deciding.{EarlierPassIn, ColumnsPassIn, RowsPassIn}

-- what is said of a row and a sum in each program where they are row i and its sum
pub row_read : {A : Type 0} (f : A → Number) (m : Room) (p : ProgramData) (x : Vector) (rows : List RowDef) (sums : List (RowSum A)) (i : ℕ) (row : RowDef) (d : RowSum A) (B : LinearProgram → Vector → Type 0)
    → rows ≡ p.rows → i < length rows → row ≡ get_or rows i row
    → AreRowSumsIn f m (meaning p) x (length p.columns) sums → ColumnsPassIn m (meaning p) x (length p.columns) → RowsPassIn m (meaning p) x i
    → ((M : LinearProgram) (y : Vector) → i < M.rows → row.lower ≡ M.lower_side i → row.upper ≡ M.upper_side i → IsSumIn m M.columns (M.coefficient i) y (option_map f (get_or sums i d).sum) → EarlierPassIn m M y (Row i) → B M y)
    → B (meaning p) x
row_read f m p x rows sums i row d B er l ir h columns passed said =
    let here : i < length p.rows = subst (λ n. i < n) (ap length er) l in
    let one : row ≡ get_or p.rows i no_row = ir ∙ read_at rows p.rows i row no_row er l in
    let sum : get_or sums i d ≡ get_or sums i past_last = get_or_default sums i d past_last (subst (λ n. i < n) (sym h.long) here) in
    said (meaning p) x here (ap (λ (e : RowDef). e.lower) one) (ap (λ (e : RowDef). e.upper) one)
    (rw sum (h.each i here).sum) (columns, passed)
