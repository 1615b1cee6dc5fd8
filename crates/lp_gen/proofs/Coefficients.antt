-- The terms of a column have its coefficient in each row, and whole numbers have a whole sum.
use Rattle.std.proofs.Common.{◌≡◌, ◌⊎◌, inl, inr, ℕ, zero, suc, ◌+◌, ◌<◌, ◌≤◌, Option, Some, None, pos, map, ◌∙◌, sym, refl, ap, arith, add-one}
use Rattle.std.specs.Prelude.{unwrap_or}
use Rattle.std.specs.Option.{option_map}
use Rattle.std.specs.List.{range_with_len, cons_option, sum}
use Rattle.std.proofs.lemmas.Bool.{cases_eq}
use Rattle.std.proofs.lemmas.List.FromFn.{sum_by-map-range_with_len_more}
use Rattle.fractions.specs.Number.{zero_ℚ, ◌+ℚ◌, of_ℤ-+ℤ}
use Rattle.fractions.specs.Total.{total, put}
use Rattle.fractions.proofs.Totals.{put-same, put-other}
use Rattle.lp_model.specs.Sparse.{dense}
use Rattle.lp_model.specs.Vectors.{Vector}
use Rattle.lp_gen.specs.Columns.{whole, term}
use Rattle.lp_gen.proofs.Entries.{terms_on}

-- the terms of the rows from a on have 0 before a
dense_before : (f : ℕ → Option ℕ) (a n i : ℕ) → i < a → dense (terms_on f a n) i ≡ zero_ℚ
dense_before f a zero i l = refl
dense_before f a (suc n) i l = by (f a) (dense_before f (a + 1) n i (omega (arith, l)))
  where
    by : (o : Option ℕ) → dense (terms_on f (a + 1) n) i ≡ zero_ℚ → dense (cons_option (option_map (term a) o) (terms_on f (a + 1) n)) i ≡ zero_ℚ
    by None e = e
    by (Some c) e = put-other (dense (terms_on f (a + 1) n)) a (whole c) i (λ same. omega (arith, same, l)) ∙ e

-- the terms of n rows have the coefficient of each row among them, and 0 where there is none
pub dense_terms : (f : ℕ → Option ℕ) (a n i : ℕ) → a ≤ i → i < a + n → dense (terms_on f a n) i ≡ whole (unwrap_or (f i) 0)
dense_terms f a zero i low high = absurd (omega (arith, low, high))
dense_terms f a (suc n) i low high = by (λ l h. dense_terms f (a + 1) n i l h) (cases_eq a i) (f a) refl
  where
    later : Vector
    later = dense (terms_on f (a + 1) n)

    by : (a + 1 ≤ i → i < a + 1 + n → dense (terms_on f (a + 1) n) i ≡ whole (unwrap_or (f i) 0)) → (a ≡ i) ⊎ (a ≡ i → ⊥) → (o : Option ℕ) → f a ≡ o
        → dense (cons_option (option_map (term a) o) (terms_on f (a + 1) n)) i ≡ whole (unwrap_or (f i) 0)
    by rest (inl e) None is = dense_before f (a + 1) n i (omega (arith, e)) ∙ ap (λ (o : Option ℕ). whole (unwrap_or o 0)) (sym is ∙ ap f e)
    by rest (inl e) (Some c) is =
        ap (put later a (whole c)) (sym e) ∙ put-same later a (whole c) ∙ ap (λ (o : Option ℕ). whole (unwrap_or o 0)) (sym is ∙ ap f e)
    by rest (inr e) None is = rest (omega (arith, low, e)) (omega (arith, high))
    by rest (inr e) (Some c) is = put-other later a (whole c) i (λ same. e (sym same)) ∙ rest (omega (arith, low, e)) (omega (arith, high))

-- a sum of whole numbers
pub whole_total : (g : ℕ → ℕ) (n : ℕ) → total n (λ j. whole (g j)) ≡ whole (sum (map g (range_with_len 0 n)))
unfolding total
whole_total g zero = refl
whole_total g (suc n) =
    let e : 0 + n ≡ n = omega arith in
    ap (λ s. s +ℚ whole (g n)) (whole_total g n)
    ∙ sym (of_ℤ-+ℤ (pos (sum (map g (range_with_len 0 n)))) (pos (g n)))
    ∙ ap whole (sym (sum_by-map-range_with_len_more (λ x. x) g 0 n n e))
    ∙ ap (λ (m : ℕ). whole (sum (map g (range_with_len 0 m)))) (add-one n)
