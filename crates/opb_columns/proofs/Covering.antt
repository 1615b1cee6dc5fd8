-- Columns that are among those whose sums may be other than 0.
use Rattle.std.proofs.Common.{◌≡◌, ◌≢◌, ◌⊎◌, inl, inr, ℕ, zero, suc, ◌<◌, ◌≤◌, ◌==◌, length, arith, ℤ, pos, negsuc, List, [], ◌∷◌, ◌++◌, Bool, true, false, cond, refl, sym, ap, subst, ◌∙◌, eq-eqb}
use Rattle.std.proofs.lemmas.Bool.{cases_eq, cases_lt, ne_eqb}
use Rattle.std.proofs.lemmas.List.{get_or_append_left}
use Rattle.opb_columns.specs.Sums.{Covered, IsIn, sum_in}

pub in_more : (j column : ℕ) (columns : List ℕ) → IsIn j columns → IsIn j (columns ++ column ∷ [])
in_more j column [] h = absurd h
in_more j column (first ∷ columns) (inl here) = inl here
in_more j column (first ∷ columns) (inr later) = inr (in_more j column columns later)

pub in_last : (column : ℕ) (columns : List ℕ) → IsIn column (columns ++ column ∷ [])
in_last column [] = inl refl
in_last column (first ∷ columns) = inr (in_last column columns)

in_either : (j column : ℕ) (columns : List ℕ) → IsIn j (columns ++ column ∷ []) → IsIn j columns ⊎ (column ≡ j)
in_either j column [] (inl here) = inr here
in_either j column [] (inr never) = absurd never
in_either j column (first ∷ columns) (inl here) = inl (inl here)
in_either j column (first ∷ columns) (inr later) = by (in_either j column columns later)
  where
    by : IsIn j columns ⊎ (column ≡ j) → IsIn j (first ∷ columns) ⊎ (column ≡ j)
    by (inl h) = inl (inr h)
    by (inr h) = inr h

zero_or_not : (z : ℤ) → (z ≡ pos 0) ⊎ (z ≢ pos 0)
zero_or_not (pos zero) = inl refl
zero_or_not (pos (suc n)) = inr (λ e. cc)
zero_or_not (negsuc n) = inr (λ e. cc)

-- one column more among them
pub covered_more : (sums : List ℤ) (columns : List ℕ) (column : ℕ) → Covered sums columns → Covered sums (columns ++ column ∷ [])
covered_more sums columns column covered j other = in_more j column columns (covered j other)

-- only the sum of one of them changes
pub covered_added : (old new : List ℤ) (columns : List ℕ) (column : ℕ) → Covered old columns → (sum_in old column ≡ pos 0 → IsIn column columns)
    → ((j : ℕ) → (column == j) ≡ false → sum_in new j ≡ sum_in old j) → Covered new columns
covered_added old new columns column covered touched others j other = by (cases_eq column j)
  where
    here : column ≡ j → (sum_in old column ≡ pos 0) ⊎ (sum_in old column ≢ pos 0) → IsIn j columns
    here e (inl none) = subst (λ (k : ℕ). IsIn k columns) e (touched none)
    here e (inr some) = subst (λ (k : ℕ). IsIn k columns) e (covered column some)

    by : (column ≡ j) ⊎ (column ≡ j → ⊥) → IsIn j columns
    by (inl e) = here e (zero_or_not (sum_in old column))
    by (inr e) = covered j (λ none. other (others j (ne_eqb column j e) ∙ none))

-- the last of them is left out, and its sum is made 0
pub covered_taken : (old new : List ℤ) (columns : List ℕ) (column : ℕ) → Covered old (columns ++ column ∷ [])
    → ((j : ℕ) → sum_in new j ≡ cond (column == j) (pos 0) (sum_in old j)) → Covered new columns
covered_taken old new columns column covered set j other = by (cases_eq column j)
  where
    past : IsIn j columns ⊎ (column ≡ j) → (column ≡ j → ⊥) → IsIn j columns
    past (inl h) e = h
    past (inr h) e = absurd (e h)

    by : (column ≡ j) ⊎ (column ≡ j → ⊥) → IsIn j columns
    by (inl e) = absurd (other (set j ∙ ap (λ (b : Bool). cond b (pos 0) (sum_in old j)) (eq-eqb column j e)))
    by (inr e) =
        let same : sum_in new j ≡ sum_in old j = set j ∙ ap (λ (b : Bool). cond b (pos 0) (sum_in old j)) (ne_eqb column j e) in
        past (in_either j column columns (covered j (λ none. other (same ∙ none)))) e

-- where none is left all sums are 0
pub covered_none : (sums : List ℤ) → Covered sums [] → (j : ℕ) → sum_in sums j ≡ pos 0
covered_none sums covered j = by (zero_or_not (sum_in sums j))
  where
    by : (sum_in sums j ≡ pos 0) ⊎ (sum_in sums j ≢ pos 0) → sum_in sums j ≡ pos 0
    by (inl h) = h
    by (inr h) = absurd (covered j h)

-- the last of them is left out, whose sum is 0
pub covered_past : (sums : List ℤ) (columns : List ℕ) (column : ℕ) → Covered sums (columns ++ column ∷ []) → sum_in sums column ≡ pos 0 → Covered sums columns
covered_past sums columns column covered none j other = by (in_either j column columns (covered j other))
  where
    by : IsIn j columns ⊎ (column ≡ j) → IsIn j columns
    by (inl h) = h
    by (inr h) = absurd (other (sym (ap (sum_in sums) h) ∙ none))

-- a column comes in, whose sum is 0
pub covered_grown : (sums : List ℤ) (columns : List ℕ) → Covered sums columns → Covered (sums ++ pos 0 ∷ []) columns
covered_grown sums columns covered j other = by (cases_lt j (length sums))
  where
    late : (sums : List ℤ) (j : ℕ) → length sums ≤ j → sum_in (sums ++ pos 0 ∷ []) j ≡ pos 0
    late [] zero past = refl
    late [] (suc j) past = refl
    late (sum ∷ sums) zero past = absurd (omega (arith, past))
    late (sum ∷ sums) (suc j) past = late sums j (omega (arith, past))

    by : (j < length sums) ⊎ (length sums ≤ j) → IsIn j columns
    by (inl early) = covered j (λ none. other (get_or_append_left sums (pos 0 ∷ []) (pos 0) j early ∙ none))
    by (inr past) = absurd (other (late sums j past))
