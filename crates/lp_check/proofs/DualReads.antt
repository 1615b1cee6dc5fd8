-- What a loop reads of a row, its dual and its sum.
use Rattle.std.proofs.Common.{◌≡◌, ℕ, ◌<◌, List, length, map, get_or, sym, ap, ◌∙◌, subst}
use Rattle.std.proofs.lemmas.List.{get_or_default}
use Rattle.std.specs.Prelude.{option_map}
use Rattle.fractions.specs.Number.{Number}
use Rattle.fractions.specs.Room.{Room}
use Rattle.lp_model.specs.Vectors.{Vector, vector_of}
use Rattle.lp_model.specs.LinearProgram.{LinearProgram}
use Rattle.lp_model.specs.ProgramData.{ProgramData}
use Rattle.lp_model.specs.Meaning.{meaning, no_row}
use Rattle.lp_model.specs.declared.program.RowDef.{RowDef}
use Rattle.lp_model.proofs.Sums.{read_at}
use Rattle.lp_check.specs.declared.sums.RowSum.{RowSum}
use Rattle.lp_check.specs.declared.verdicts.Item.TheVariants.{Cost}
use Rattle.lp_prices.specs.Prices.{IsSumIn}
use Rattle.lp_check.specs.Summing.{AreRowSumsIn, past_last}
use Rattle.lp_check.specs.Deciding.{EarlierPassIn}
use Rattle.lp_check.specs.DecidingPairs.{DualsPass}
use Rattle.lp_check.proofs.NumberReads.{number_read}

-- what is said of a row, a dual and a sum in each program where they are row i, its dual and its sum
pub dual_read : {A : Type 0} (f : A → Number) (m : Room) (p : ProgramData) (x : Vector) (ys : List A) (rows : List RowDef) (sums : List (RowSum A)) (i : ℕ) (row : RowDef) (dual : A) (d : RowSum A) (B : LinearProgram → Vector → Vector → Type 0)
    → rows ≡ p.rows → i < length rows → length ys ≡ length p.rows → row ≡ get_or rows i row → dual ≡ get_or ys i dual
    → AreRowSumsIn f m (meaning p) x (length p.columns) sums → EarlierPassIn m (meaning p) x Cost → DualsPass p.sense (meaning p) x (vector_of (map f ys)) i
    → ((M : LinearProgram) (z y : Vector) → i < M.rows → row.lower ≡ M.lower_side i → row.upper ≡ M.upper_side i → f dual ≡ y i → IsSumIn m M.columns (M.coefficient i) z (option_map f (get_or sums i d).sum) → EarlierPassIn m M z Cost → DualsPass p.sense M z y i → B M z y)
    → B (meaning p) x (vector_of (map f ys))
dual_read f m p x ys rows sums i row dual d B er l long ir id h earlier passed said =
    let here : i < length p.rows = subst (λ n. i < n) (ap length er) l in
    let one : row ≡ get_or p.rows i no_row = ir ∙ read_at rows p.rows i row no_row er l in
    let price : f dual ≡ vector_of (map f ys) i = number_read f ys i dual (subst (λ n. i < n) (sym long) here) id in
    let sum : get_or sums i d ≡ get_or sums i past_last = get_or_default sums i d past_last (subst (λ n. i < n) (sym h.long) here) in
    said (meaning p) x (vector_of (map f ys)) here (ap (λ (e : RowDef). e.lower) one) (ap (λ (e : RowDef). e.upper) one) price
    (rw sum (h.each i here).sum) earlier passed
