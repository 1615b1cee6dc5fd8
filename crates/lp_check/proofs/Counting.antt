-- A row's sum while the terms of a column are gone through.
use Rattle.std.proofs.Common.{◌≡◌, ◌≢◌, ◌⊎◌, inl, inr, ℕ, ◌+◌, ◌<◌, ◌≤◌, List, length, drop, get_or, sym, ap, ◌∙◌, subst, arith}
use Rattle.std.proofs.lemmas.List.{drop_all}
use Rattle.std.proofs.lemmas.Bool.{cases_eq}
use Rattle.std.specs.Prelude.{option_map}
use Rattle.fractions.specs.Room.{Room}
use Rattle.exact_numbers.specs.Nothing.{AddsNothing}
use Rattle.fractions.specs.Number.{Number, zero_ℚ}
use Rattle.lp_model.specs.Vectors.{Vector}
use Rattle.lp_model.specs.Sparse.{dense}
use Rattle.lp_model.specs.declared.terms.Term.{Term}
use Rattle.lp_model.proofs.Sums.{dense-here, dense-past}
use Rattle.lp_check.specs.declared.sums.RowSum.{RowSum}
use Rattle.lp_prices.specs.Prices.{IsSumIn}
use Rattle.lp_check.specs.Summing.{IsRowSumIn, CountsIn, sum_of}
use Rattle.lp_prices.proofs.Steps.{zero_more}

module _ {A : Type 0} (f : A → Number) (m : Room) where
  -- no term of column j was counted in row i, and the terms from k on have its coefficient
  pub record Waits (ts : List Term) (k j : ℕ) (a x : Vector) (i : ℕ) (r : RowSum A) : Type 0 where
    pub before : IsRowSumIn f m j a x r
    pub left : dense (drop k ts) i ≡ a j

  -- the first one was
  pub record IsDone (j : ℕ) (a x : Vector) (r : RowSum A) : Type 0 where
    pub counted : r.counted ≡ j + 1
    pub sum : IsSumIn m (j + 1) a x (option_map f r.sum)

  abbrev pub Counting : List Term → ℕ → ℕ → Vector → Vector → ℕ → RowSum A → Type 0
  Counting ts k j a x i r = Waits ts k j a x i r ⊎ IsDone j a x r

  -- a term of another row
  pub counting_other : (ts : List Term) (k j : ℕ) (a x : Vector) (i : ℕ) (r : RowSum A) (t : Term) → k < length ts → t ≡ get_or ts k t → t.id ≢ i → Counting ts k j a x i r → Counting ts (k + 1) j a x i r
  counting_other ts k j a x i r t l e n (inl waits) = inl (record { before = waits.before; left = dense-past ts k i t l e n ∙ waits.left })
  counting_other ts k j a x i r t l e n (inr done) = inr done

  -- a term of this row
  pub counting_own : (ts : List Term) (k j : ℕ) (a x : Vector) (i : ℕ) (old new : RowSum A) (t : Term) (w : Number) → k < length ts → t ≡ get_or ts k t → t.id ≡ i → x j ≡ w → CountsIn f m j t.value w old new → Counting ts k j a x i old → Counting ts (k + 1) j a x i new
  counting_own ts k j a x i old new t w l e same ex h (inl waits) = inr (record {
    counted = h.counted waits.before.counted;
    sum = h.sum a x waits.before.counted (sym (dense-here ts k i t l e same) ∙ waits.left) (sym ex) waits.before.sum;
  })
  counting_own ts k j a x i old new t w l e same ex h (inr done) =
      let stays : new ≡ old = h.again (omega arith) in
      inr (record { counted = rw stays done.counted; sum = rw stays done.sum })

  pub counting_none : (ts : List Term) (j : ℕ) (a x : Vector) (i : ℕ) (r : RowSum A) → a j ≡ dense ts i → IsRowSumIn f m j a x r → Counting ts 0 j a x i r
  counting_none ts j a x i r e h = inl (record { before = h; left = sym e })

  -- no term is left
  pub counting_all : (adds : AddsNothing m) (ts : List Term) (k j : ℕ) (a x : Vector) (i : ℕ) (r : RowSum A) → length ts ≤ k → Counting ts k j a x i r → IsRowSumIn f m (j + 1) a x r
  counting_all adds ts k j a x i r l (inl waits) =
      let empty : a j ≡ zero_ℚ = sym waits.left ∙ ap (λ us. dense us i) (drop_all k ts l) in
      record { counted = omega arith; sum = zero_more m adds j a x (option_map f r.sum) empty waits.before.sum }
  counting_all adds ts k j a x i r l (inr done) = record { counted = omega arith; sum = done.sum }

  -- one more term
  pub counting_more : (ts : List Term) (k j : ℕ) (a x : Vector) (i : ℕ) (sums new : List (RowSum A)) (t : Term) (w : Number) → k < length ts → t ≡ get_or ts k t → i < length sums → x j ≡ w
      → (t.id < length sums → CountsIn f m j t.value w (sum_of sums t.id) (sum_of new t.id)) → ((n : ℕ) → n ≢ t.id → sum_of new n ≡ sum_of sums n)
      → Counting ts k j a x i (sum_of sums i) → Counting ts (k + 1) j a x i (sum_of new i)
  counting_more ts k j a x i sums new t w l e long ex own others h = by (cases_eq t.id i)
    where
      by : (t.id ≡ i) ⊎ (t.id ≢ i) → Counting ts (k + 1) j a x i (sum_of new i)
      by (inl same) = counting_own ts k j a x i (sum_of sums i) (sum_of new i) t w l e same ex
          (subst (λ n. CountsIn f m j t.value w (sum_of sums n) (sum_of new n)) same (own (rw same long))) h
      by (inr other) = subst (λ r. Counting ts (k + 1) j a x i r) (sym (others i (λ same. other (sym same))))
          (counting_other ts k j a x i (sum_of sums i) t l e other h)
