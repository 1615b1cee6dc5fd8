-- What the looks at a row and two columns say.
use Rattle.std.proofs.Common.{◌≡◌, ◌≢◌, ◌⊎◌, inl, inr, ℕ, Bool, true, false, not, ◌&&◌, ◌||◌, nat_eq, List, [], ◌∷◌, length, Option, unwrap_or, sym, refl, ap, ap₂, ◌∙◌, arith}
use Rattle.std.specs.Prelude.{if◌then◌else◌}
use Rattle.std.proofs.lemmas.Bool.{and_parts, cases_eq, eq-eqb, eqb-true, ne_eqb}
use Rattle.fractions.specs.Number.{Number, zero_ℚ}
use Rattle.fractions.specs.Compare.{eq_ℚ}
use Rattle.fractions.specs.Comparisons.{eq_ℚ-is}
use Rattle.lp_model.specs.declared.terms.Term.{Term}
use Rattle.lp_model.specs.EndTests.{is_fixed, is_in_order}
use Rattle.lp_model.specs.Sparse.{dense}
use Rattle.problem_model.specs.Problems.{IsSparse, row_at, column_at, row_entries, sides_at, bounds_at}
use Rattle.problem_model.specs.Sparse.{Sparse}
use Rattle.problem_model.specs.declared.part.Contents.TheVariants as holding
use Rattle.problem_model.specs.Parts.{bounds_held}
use Rattle.problem_laws.proofs.Entries.{row_entries-ascend}
use Rattle.problem_laws.proofs.Terms.{dense-cons_other, not_both}
use Rattle.rule_words.proofs.EndTestsSay.{not_true}
use Rattle.aggregation_laws.specs.DoubletonEquation.{are_at, enabled, entry_at, is_doubleton_equation, stays_whole}
use Rattle.aggregation_laws.proofs.DoubletonEquation.{IsPair, pair_is}
use Rattle.aggregation_rules.proofs.Sign.{same_test}
use Rattle.aggregation_rules.specs.Looks.{is_in_range, is_pair, keeps_whole}

-- ---- two entries
is_at : (t u : Term) (j : ℕ) → dense (t ∷ u ∷ []) j ≢ zero_ℚ → (t.id ≡ j) ⊎ (u.id ≡ j)
is_at t u j n = by (cases_eq t.id j) (cases_eq u.id j)
  where
    by : (t.id ≡ j) ⊎ (t.id ≢ j) → (u.id ≡ j) ⊎ (u.id ≢ j) → (t.id ≡ j) ⊎ (u.id ≡ j)
    by (inl e) d = inl e
    by (inr e) (inl d) = inr d
    by (inr e) (inr d) = absurd (n (dense-cons_other t (u ∷ []) j e ∙ dense-cons_other u [] j d))

or_true : (b : Bool) → (b || true) ≡ true
or_true true = refl
or_true false = refl

pub two_at : (ts : List Term) (j k : ℕ) → length ts ≡ 2 → j ≢ k → dense ts j ≢ zero_ℚ → dense ts k ≢ zero_ℚ → are_at j k ts ≡ true
two_at [] j k l d n m = absurd (omega (arith, l))
two_at (t ∷ []) j k l d n m = absurd (omega (arith, l))
two_at (t ∷ u ∷ x ∷ ts) j k l d n m = absurd (omega (arith, l))
two_at (t ∷ u ∷ []) j k l d n m = by (is_at t u j n) (is_at t u k m)
  where
    both : (a b : Bool) → a ≡ true → b ≡ true → (a && b) ≡ true
    both a b e f = ap₂ (λ (x y : Bool). x && y) e f

    by : (t.id ≡ j) ⊎ (u.id ≡ j) → (t.id ≡ k) ⊎ (u.id ≡ k) → ((nat_eq t.id j && nat_eq u.id k) || (nat_eq t.id k && nat_eq u.id j)) ≡ true
    by (inl e) (inl f) = absurd (d (sym e ∙ f))
    by (inl e) (inr f) = ap (λ (b : Bool). b || (nat_eq t.id k && nat_eq u.id j)) (both (nat_eq t.id j) (nat_eq u.id k) (eq-eqb t.id j e) (eq-eqb u.id k f))
    by (inr e) (inl f) = ap (λ (b : Bool). (nat_eq t.id j && nat_eq u.id k) || b) (both (nat_eq t.id k) (nat_eq u.id j) (eq-eqb t.id k f) (eq-eqb u.id j e)) ∙ or_true (nat_eq t.id j && nat_eq u.id k)
    by (inr e) (inr f) = absurd (d (sym e ∙ f))

two_long : (ts : List Term) (j k : ℕ) → are_at j k ts ≡ true → length ts ≡ 2
two_long [] j k e = absurd (not_true e)
two_long (t ∷ []) j k e = absurd (not_true e)
two_long (t ∷ u ∷ x ∷ ts) j k e = absurd (not_true e)
two_long (t ∷ u ∷ []) j k e = refl

all_true : (a b c d : Bool) → a ≡ true → b ≡ false → c ≡ false → d ≡ false → (a && (not b && (not c && not d))) ≡ true
all_true true false false false e f g h = refl
all_true true true c d e f g h = absurd (not_both refl f)
all_true true false true d e f g h = absurd (not_both refl g)
all_true true false false true e f g h = absurd (not_both refl h)
all_true false b c d e f g h = absurd (not_true e)

parts : (a b c d : Bool) → (a && (not b && (not c && not d))) ≡ true → (a ≡ true) × (b ≡ false) × (c ≡ false) × (d ≡ false)
parts true false false false e = (refl, refl, refl, refl)
parts true true c d e = absurd (not_true e)
parts true false true d e = absurd (not_true e)
parts true false false true e = absurd (not_true e)
parts false b c d e = absurd (not_true e)

-- a number that isn't 0
off : (q : Number) → q ≢ zero_ℚ → eq_ℚ q zero_ℚ ≡ false
off q n = by (eq_ℚ q zero_ℚ) refl
  where
    by : (b : Bool) → eq_ℚ q zero_ℚ ≡ b → b ≡ false
    by true e = absurd (n ((eq_ℚ-is q zero_ℚ).0 e))
    by false e = refl

module _ (p : Sparse) (i j k : ℕ) where
  pair_of : IsSparse p → are_at j k (row_entries p i) ≡ true → IsPair (row_entries p i) j k
  pair_of s e = pair_is (row_entries p i) 0 (length p.matrix.columns) j k (row_entries-ascend p i s) e

  pub two_is : IsSparse p → are_at j k (row_entries p i) ≡ (nat_eq (length (row_entries p i)) 2 && (not (nat_eq j k) && (not (eq_ℚ (entry_at p i j) zero_ℚ) && not (eq_ℚ (entry_at p i k) zero_ℚ))))
  two_is s = same_test (are_at j k (row_entries p i)) _
      (λ e. let h = pair_of s e in
      all_true (nat_eq (length (row_entries p i)) 2) (nat_eq j k) (eq_ℚ (entry_at p i j) zero_ℚ) (eq_ℚ (entry_at p i k) zero_ℚ)
      (eq-eqb (length (row_entries p i)) 2 (two_long (row_entries p i) j k e)) (ne_eqb j k h.apart) (off (entry_at p i j) h.first) (off (entry_at p i k) h.second))
      (λ e. let h = parts (nat_eq (length (row_entries p i)) 2) (nat_eq j k) (eq_ℚ (entry_at p i j) zero_ℚ) (eq_ℚ (entry_at p i k) zero_ℚ) e in
      two_at (row_entries p i) j k (eqb-true (length (row_entries p i)) 2 h.0) (λ f. not_both (eq-eqb j k f) h.1) (λ f. not_both ((eq_ℚ-is (entry_at p i j) zero_ℚ).1 f) h.2) (λ f. not_both ((eq_ℚ-is (entry_at p i k) zero_ℚ).1 f) h.3))

  -- ---- what a pair is
  pub row_on : is_pair p i j k ≡ true → (row_at p i).live ≡ true
  row_on e = (and_parts (row_at p i).live _ e).0

  pub first_on : is_pair p i j k ≡ true → (column_at p j).live ≡ true
  first_on e = (and_parts (column_at p j).live _ (and_parts (row_at p i).live _ e).1).0

  pub second_on : is_pair p i j k ≡ true → (column_at p k).live ≡ true
  second_on e = (and_parts (column_at p k).live _ (and_parts (column_at p j).live _ (and_parts (row_at p i).live _ e).1).1).0

  at : is_pair p i j k ≡ true → are_at j k (row_entries p i) ≡ true
  at e = (and_parts (column_at p k).live _ (and_parts (column_at p j).live _ (and_parts (row_at p i).live _ e).1).1).1

  pub first_some : IsSparse p → is_pair p i j k ≡ true → entry_at p i j ≢ zero_ℚ
  first_some s e = (pair_of s (at e)).first

  pub second_some : IsSparse p → is_pair p i j k ≡ true → entry_at p i k ≢ zero_ℚ
  second_some s e = (pair_of s (at e)).second

-- ---- where the rule is enabled
regroup : (a b c d e : Bool) → (a && (b && (c && (d && e)))) ≡ (a && ((b && (c && d)) && e))
regroup true true true d e = refl
regroup true true false d e = refl
regroup true false c d e = refl
regroup false b c d e = refl

one_semi : (a b e : Bool) → false ≡ (a && ((b && false) && e))
one_semi true true e = refl
one_semi true false e = refl
one_semi false b e = refl

other_semi : (a b c e : Bool) → false ≡ (a && ((b && (c && false)) && e))
other_semi a b true e = one_semi a b e
other_semi a b false e = one_semi a b e

looks : (row first second s t : Bool) (ts : List Term) (l u m o n q : Option Number) (w y : Bool) (j k : ℕ)
    → is_doubleton_equation j k (if row then holding.Entries ts else holding.Gone) (if row then holding.Sides l u else holding.Gone)
    (if first then bounds_held s m o w else holding.Gone) (if second then bounds_held t n q y else holding.Gone)
    ≡ ((row && (first && (second && are_at j k ts))) && ((is_fixed l u false && ((not s && is_in_order m o) && (not t && is_in_order n q))) && stays_whole w y (dense ts j) (dense ts k) (unwrap_or l zero_ℚ)))
looks true true true true t ts l u m o n q w y j k = one_semi (are_at j k ts) (is_fixed l u false) (stays_whole w y (dense ts j) (dense ts k) (unwrap_or l zero_ℚ))
looks true true true false true ts l u m o n q w y j k = other_semi (are_at j k ts) (is_fixed l u false) (is_in_order m o) (stays_whole w y (dense ts j) (dense ts k) (unwrap_or l zero_ℚ))
looks true true true false false ts l u m o n q w y j k = regroup (are_at j k ts) (is_fixed l u false) (is_in_order m o) (is_in_order n q) (stays_whole w y (dense ts j) (dense ts k) (unwrap_or l zero_ℚ))
looks true true false true t ts l u m o n q w y j k = refl
looks true true false false t ts l u m o n q w y j k = refl
looks true false second s t ts l u m o n q w y j k = refl
looks false first second s t ts l u m o n q w y j k = refl

pub enabled_is : (p : Sparse) (i j k : ℕ) → enabled p i j k ≡ (is_pair p i j k && (is_in_range p i j k && keeps_whole p i j k))
enabled_is p i j k = looks (row_at p i).live (column_at p j).live (column_at p k).live (bounds_at p j).semi (bounds_at p k).semi (row_entries p i) (sides_at p i).lower (sides_at p i).upper
    (bounds_at p j).lower (bounds_at p j).upper (bounds_at p k).lower (bounds_at p k).upper (bounds_at p j).whole (bounds_at p k).whole j k

pub pair_on : (p : Sparse) (i j k : ℕ) → enabled p i j k ≡ true → is_pair p i j k ≡ true
pair_on p i j k e = (and_parts (is_pair p i j k) _ (sym (enabled_is p i j k) ∙ e)).0
