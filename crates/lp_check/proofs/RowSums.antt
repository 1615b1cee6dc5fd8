-- The sums of all rows.
use Rattle.std.proofs.Common.{◌≡◌, ℕ, ◌+◌, ◌<◌, List, ◌++◌, length, take, drop, refl, sym, ap, ◌∙◌, subst, arith}
use Rattle.std.proofs.Math.Seq.{take-append_seam}
use Rattle.std.specs.Prelude.{All, Option}
use Rattle.fractions.specs.Number.{Number}
use Rattle.fractions.specs.Room.{Room}
use Rattle.exact_numbers.specs.Nothing.{AddsNothing}
use Rattle.lp_prices.specs.Prices.{IsSumIn}
use Rattle.fractions.specs.Total.{total}
use Rattle.lp_model.specs.Vectors.{Vector}
use Rattle.lp_model.specs.Sparse.{dense}
use Rattle.lp_model.specs.ProgramData.{ProgramData}
use Rattle.lp_model.specs.Meaning.{meaning, column_at}
use Rattle.lp_model.specs.declared.program.RowDef.{RowDef}
use Rattle.lp_model.specs.declared.terms.Term.{Term}
use Rattle.lp_check.specs.declared.sums.RowSum.{RowSum}
use Rattle.lp_check.specs.Summing.{IsRowSumIn, AreRowSumsIn, IsNoSum, past_last, sum_of}

none_counted : {A : Type 0} (f : A → Number) (m : Room) (adds : AddsNothing m) (a x : Vector) (r : RowSum A) → IsNoSum f r → IsRowSumIn f m 0 a x r
unfolding total
none_counted f m adds a x r none = record { counted = omega (arith, none.counted); sum = subst (λ (o : Option Number). IsSumIn m 0 a x o) (sym none.sum) (refl, tt, adds.zero) }

-- before the first column
pub sums_none : {A : Type 0} (f : A → Number) (m : Room) (adds : AddsNothing m) (p : ProgramData) (x : Vector) (rows : List RowDef) (sums : List (RowSum A)) → rows ≡ p.rows → length sums ≡ length rows → All (IsNoSum f) sums → AreRowSumsIn f m (meaning p) x 0 sums
sums_none f m adds p x rows sums er long each = record {
  long = long ∙ ap length er;
  each = λ i l. none_counted f m adds ((meaning p).coefficient i) x (sum_of sums i) (each i past_last (subst (λ n. i < n) (sym (long ∙ ap length er)) l));
}

-- one more column, written back into the vector
pub sums_more : {A : Type 0} (f : A → Number) (m : Room) (p : ProgramData) (x : Vector) (j len : ℕ) (items slice new : List (RowSum A)) (ts : List Term) (w : Number)
    → slice ≡ items → length slice ≡ len → length new ≡ length slice → ts ≡ (column_at p j).entries → w ≡ x j
    → ((i : ℕ) (a y : Vector) → i < length slice → a j ≡ dense ts i → y j ≡ w → IsRowSumIn f m j a y (sum_of slice i) → IsRowSumIn f m (j + 1) a y (sum_of new i))
    → AreRowSumsIn f m (meaning p) x j items → AreRowSumsIn f m (meaning p) x (j + 1) (take len (new ++ drop (length new) items))
sums_more f m p x j len items slice new ts w es el en et ew counted h =
    let back : take len (new ++ drop (length new) items) ≡ new = ap (λ n. take n (new ++ drop (length new) items)) (sym el ∙ sym en) ∙ take-append_seam new (drop (length new) items) in
    let long : length slice ≡ length p.rows = ap length es ∙ h.long in
    rw back (record {
      long = en ∙ long;
      each = λ i l. counted i ((meaning p).coefficient i) x (rw long l) (ap (λ us. dense us i) (sym et)) (sym ew) (rw es (h.each i l));
    })
