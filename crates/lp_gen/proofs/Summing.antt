-- The sums of coefficients.
use Rattle.std.proofs.Common.{◌≡◌, ◌⊎◌, inl, inr, ℕ, zero, suc, ◌+◌, ◌*◌, ◌<◌, ◌≤◌, Bool, true, false, nat_lt, List, Option, Some, None, map, length, get_or, set, ◌∙◌, sym, refl, ap, ap₂, subst, arith}
use Rattle.std.specs.Prelude.{◌==◌, if◌then◌else◌, insert, is_some, unwrap_or}
use Rattle.std.specs.Option.{option_or}
use Rattle.std.specs.List.{range_with_len, prefix_len, sum}
use Rattle.std.proofs.lemmas.Bool.{cases_eq}
use Rattle.std.proofs.lemmas.List.{get_or-set_same, get_or-set_other}
use Rattle.std.proofs.lemmas.List.FromFn.{map-range_with_len_more, length-map-range_with_len}
use Rattle.std.proofs.lemmas.List.Sums.{sum_by_push, sum_by-le}
use Rattle.lp_model.specs.declared.terms.Term.{Term}
use Rattle.lp_model.specs.Sparse.{has}
use Rattle.lp_gen.specs.Columns.{term, terms_of, coefficient_in, entry_row, entry_coefficient, entries_seed, column_seed, coefficient_sum}
use Rattle.lp_gen.proofs.Drawing.{drawn_below}
use Rattle.lp_gen.proofs.Entries.{with_entry, coefficient_more, kept, other, taken, has_terms, put_term, terms_same}
use Rattle.lp_gen.proofs.Listing.{all_listed}

-- ---- coefficients are from 1 to 9
pub coefficient_sized : (seed rows count i c : ℕ) → coefficient_in seed rows count i ≡ Some c → (0 < c) × (c ≤ 9)
unfolding coefficient_in
coefficient_sized seed rows zero i c is = cc
coefficient_sized seed rows (suc k) i c is = by (λ e. coefficient_sized seed rows k i c e) (coefficient_in seed rows k i) refl (entry_row seed rows k == i) is
  where
    drawn_c : entry_coefficient seed k ≡ c → (0 < c) × (c ≤ 9)
    drawn_c e = let l = drawn_below seed (2 * k + 1) 9 (omega arith) in (omega (arith, e), omega (arith, e, l))

    by : (coefficient_in seed rows k i ≡ Some c → (0 < c) × (c ≤ 9)) → (o : Option ℕ) → coefficient_in seed rows k i ≡ o → (b : Bool) → option_or o (if b then Some (entry_coefficient seed k) else None) ≡ Some c → (0 < c) × (c ≤ 9)
    by before (Some d) was b e = before (was ∙ e)
    by before None was true e = drawn_c (let same : entry_coefficient seed k ≡ c = cc in same)
    by before None was false e = cc

small : (seed rows count i : ℕ) → unwrap_or (coefficient_in seed rows count i) 0 ≤ 9
small seed rows count i = by (coefficient_in seed rows count i) refl
  where
    by : (o : Option ℕ) → coefficient_in seed rows count i ≡ o → unwrap_or o 0 ≤ 9
    by None is = omega arith
    by (Some c) is = (coefficient_sized seed rows count i c is).1

pub sum_small : (seed rows columns i : ℕ) → coefficient_sum seed rows columns i ≤ 9 * columns
sum_small seed rows columns i =
    let f : ℕ → ℕ = λ j. unwrap_or (coefficient_in (entries_seed (column_seed seed j)) rows 3 i) 0 in
    let many = length-map-range_with_len f 0 columns in
    let most = sum_by-le (λ x. x) 9 (map f (range_with_len 0 columns)) (all_listed (λ x. x ≤ 9) f (range_with_len 0 columns) (λ j. small (entries_seed (column_seed seed j)) rows 3 i)) in
    omega (arith, most, ap (λ (n : ℕ). n * 9) many)

pub sum_more : (seed rows j i : ℕ) → coefficient_sum seed rows (j + 1) i ≡ coefficient_sum seed rows j i + unwrap_or (coefficient_in (entries_seed (column_seed seed j)) rows 3 i) 0
sum_more seed rows j i =
    let f : ℕ → ℕ = λ j. unwrap_or (coefficient_in (entries_seed (column_seed seed j)) rows 3 i) 0 in
    let e : 0 + j ≡ j = omega arith in
    ap sum (map-range_with_len_more f 0 j j e) ∙ sum_by_push (λ x. x) (map f (range_with_len 0 j)) (f j)

-- ---- an entry more
module _ (seed rows k row c : ℕ) (in_rows : row < rows) (row_is : row ≡ entry_row seed rows k) (c_is : c ≡ entry_coefficient seed k) where
  coefficients : ℕ → Option ℕ
  coefficients = coefficient_in seed rows k

  one_more : (i : ℕ) → coefficient_in seed rows (k + 1) i ≡ with_entry (coefficient_in seed rows k) row c i
  one_more i = coefficient_more seed rows k i ∙ ap₂ (λ (r d : ℕ). with_entry (coefficient_in seed rows k) r d i) (sym row_is) (sym c_is)

  pub is_new : has row (terms_of seed rows k) ≡ false → coefficient_in seed rows k row ≡ None
  is_new never = by (coefficient_in seed rows k row) (sym (has_terms (coefficient_in seed rows k) 0 rows row (omega arith) (omega (arith, in_rows))) ∙ never)
    where
      by : (o : Option ℕ) → is_some o ≡ false → o ≡ None
      by None e = refl
      by (Some d) e = cc

  is_old : has row (terms_of seed rows k) ≡ true → (d : ℕ) × (coefficient_in seed rows k row ≡ Some d)
  is_old there = by (coefficient_in seed rows k row) refl (sym (has_terms (coefficient_in seed rows k) 0 rows row (omega arith) (omega (arith, in_rows))) ∙ there)
    where
      by : (o : Option ℕ) → coefficient_in seed rows k row ≡ o → is_some o ≡ true → (d : ℕ) × (coefficient_in seed rows k row ≡ Some d)
      by None is e = cc
      by (Some d) is e = (d, is)

  pub terms_left : has row (terms_of seed rows k) ≡ true → terms_of seed rows k ≡ terms_of seed rows (k + 1)
  terms_left there =
      let old = is_old there in
      terms_same (coefficient_in seed rows k) (coefficient_in seed rows (k + 1)) 0 rows (λ i l. sym (one_more i ∙ kept (coefficient_in seed rows k) row c i old.0 old.1))

  pub terms_put : has row (terms_of seed rows k) ≡ false → insert (terms_of seed rows k) (prefix_len (λ (t : Term). nat_lt t.id row) (terms_of seed rows k)) (term row c) ≡ terms_of seed rows (k + 1)
  terms_put never =
      let new = is_new never in
      put_term (coefficient_in seed rows k) (coefficient_in seed rows (k + 1)) 0 rows row c (omega arith) (omega (arith, in_rows)) new
      (one_more row ∙ taken (coefficient_in seed rows k) row c new)
      (λ i ne. one_more i ∙ other (coefficient_in seed rows k) row c i ne)

  pub sums_left : (i now old : ℕ) → has row (terms_of seed rows k) ≡ true → now ≡ old + unwrap_or (coefficient_in seed rows k i) 0 → now ≡ old + unwrap_or (coefficient_in seed rows (k + 1) i) 0
  sums_left i now old there is =
      let was = is_old there in
      is ∙ ap (λ (o : Option ℕ). old + unwrap_or o 0) (sym (one_more i ∙ kept (coefficient_in seed rows k) row c i was.0 was.1))

  pub sums_added : (sums : List ℕ) (old : ℕ → ℕ) → length sums ≡ rows → has row (terms_of seed rows k) ≡ false
      → ((i : ℕ) → i < rows → get_or sums i 0 ≡ old i + unwrap_or (coefficient_in seed rows k i) 0)
      → (i : ℕ) → i < rows → get_or (set sums row (get_or sums row 0 + c)) i 0 ≡ old i + unwrap_or (coefficient_in seed rows (k + 1) i) 0
  sums_added sums old long never is i l = by (cases_eq row i)
    where
      new : coefficient_in seed rows k row ≡ None
      new = is_new never

      by : (row ≡ i) ⊎ (row ≡ i → ⊥) → get_or (set sums row (get_or sums row 0 + c)) i 0 ≡ old i + unwrap_or (coefficient_in seed rows (k + 1) i) 0
      by (inl e) =
          let here : get_or (set sums row (get_or sums row 0 + c)) row 0 ≡ get_or sums row 0 + c = get_or-set_same sums row (get_or sums row 0 + c) 0 (omega (arith, long, in_rows)) in
          let none : unwrap_or (coefficient_in seed rows k row) 0 ≡ 0 = ap (λ (o : Option ℕ). unwrap_or o 0) new in
          let some : unwrap_or (coefficient_in seed rows (k + 1) row) 0 ≡ c = ap (λ (o : Option ℕ). unwrap_or o 0) (one_more row ∙ taken (coefficient_in seed rows k) row c new) in
          subst (λ (j : ℕ). get_or (set sums row (get_or sums row 0 + c)) j 0 ≡ old j + unwrap_or (coefficient_in seed rows (k + 1) j) 0) e
          (omega (arith, here, is row in_rows, none, some))
      by (inr e) =
          get_or-set_other sums row i (get_or sums row 0 + c) 0 (λ same. e (sym same)) ∙ is i l
          ∙ ap (λ (o : Option ℕ). old i + unwrap_or o 0) (sym (one_more i ∙ other (coefficient_in seed rows k) row c i e))
