-- A row with two infinite ends: each rest is infinite, and no bound follows.
use Rattle.std.proofs.Common.{◌≡◌, ◌≢◌, ◌⊎◌, inl, inr, ℕ, suc, ◌+◌, ◌<◌, ◌≤◌, ltb, Bool, true, false, not, List, [], ◌∷◌, ◌++◌, append-nil, Option, Some, None, Ok, refl, sym, ap, ap₂, ◌∙◌, arith}
use Rattle.std.specs.Prelude.{◌&&◌, if◌then◌else◌}
use Rattle.std.specs.List.{filter}
use Rattle.std.proofs.lemmas.Bool.{cases_eq, eq-eqb, le-ltb, ne_eqb, or_parts}
use Rattle.fractions.specs.Number.{Number, zero_ℚ}
use Rattle.fractions.specs.Compare.{lt_ℚ}
use Rattle.undo_records.specs.declared.side.Side.{Side}
use Rattle.undo_records.specs.declared.side.Side.TheVariants.{Lower, Upper}
use Rattle.problem_model.specs.declared.line.Sides.{Sides}
use Rattle.problem_model.specs.Problems.{row_entries, sides_at, IsSparse}
use Rattle.problem_model.specs.Sparse.{Sparse}
use Rattle.problem_laws.proofs.Terms.{not_both}
use Rattle.row_spans.specs.declared.span.Span.{Span}
use Rattle.row_spans.specs.declared.span.Extreme.{Extreme}
use Rattle.row_spans.specs.declared.span.Extreme.TheVariants.{Least, Greatest}
use Rattle.row_spans.specs.Exact.{as_end}
use Rattle.row_spans.specs.RowSums.{all_finite, rest, sum_from}
use Rattle.row_spans.specs.Spans.{AreSpans, end_at, ends_at, others, spans_of}
use Rattle.row_spans.proofs.Reading.{spans_of-are}
use Rattle.kept_sums.specs.CommonSums.{infinite_count, IsCommonSum}
use Rattle.kept_sums.specs.declared.common.CommonSum.{CommonSum}
use Rattle.activity_laws.specs.BoundTightening.{bounds_of, enabled, implied, is_better, left_over, old_bound}
use Rattle.activity_rules.specs.Tightened.{at_most_one_infinite, bound_if, found_among, is_looked_at, is_tight, may_tell, may_tighten}
use Rattle.activity_rules.proofs.Tightened.{all_found}

-- no span has a lower id
none_below : (j m : ℕ) (ss : List Span) → j < m → AreSpans m ss → others j ss ≡ ss
none_below j m [] l a = refl
none_below j m (s ∷ ss) l a =
    let n : s.id ≢ j = omega (arith, a.0) in
    ap (λ (b : Bool). if not b then s ∷ others j ss else others j ss) (ne_eqb s.id j n) ∙ ap (λ (r : List Span). s ∷ r) (none_below j (suc s.id) ss (omega (arith, a.0)) a.2)

-- one that is left out leaves another that is infinite
one_left : (x : Extreme) (j m : ℕ) (ss : List Span) → AreSpans m ss → at_most_one_infinite (ends_at x ss) ≡ false → all_finite (ends_at x (others j ss)) ≡ false
one_left x j m [] a e = absurd (not_both refl e)
one_left x j m (s ∷ ss) a e = by (cases_eq s.id j) (end_at x s) refl e (one_left x j (suc s.id) ss a.2)
  where
    left : Bool → Bool
    left b = all_finite (ends_at x (if not b then s ∷ others j ss else others j ss))

    by : (s.id ≡ j) ⊎ (s.id ≢ j) → (o : Option Number) → end_at x s ≡ o → at_most_one_infinite (o ∷ ends_at x ss) ≡ false → (at_most_one_infinite (ends_at x ss) ≡ false → all_finite (ends_at x (others j ss)) ≡ false)
        → all_finite (ends_at x (others j (s ∷ ss))) ≡ false
    by (inl f) None g h ih = ap left (eq-eqb s.id j f) ∙ ap (λ (r : List Span). all_finite (ends_at x r)) (none_below j (suc s.id) ss (omega (arith, f)) a.2) ∙ h
    by (inl f) (Some q) g h ih = ap left (eq-eqb s.id j f) ∙ ih h
    by (inr d) None g h ih = ap left (ne_eqb s.id j d) ∙ ap (λ (o : Option Number). all_finite (o ∷ ends_at x (others j ss))) g
    by (inr d) (Some q) g h ih = ap left (ne_eqb s.id j d) ∙ ap (λ (o : Option Number). all_finite (o ∷ ends_at x (others j ss))) g ∙ ih h

rest_none : (x : Extreme) (j : ℕ) (ss : List Span) → AreSpans 0 ss → at_most_one_infinite (ends_at x ss) ≡ false → rest x j ss ≡ Ok None
rest_none x j ss a e = ap (λ (b : Bool). if b then as_end (sum_from zero_ℚ (ends_at x (others j ss))) else Ok None) (one_left x j 0 ss a e)

nothing_left : (x : Extreme) (j : ℕ) (v : Number) (o : Option Number) (ss : List Span) → AreSpans 0 ss → may_tell x o ss ≡ false → left_over v o (rest x j ss) ≡ None
nothing_left x j v None ss a e = refl
nothing_left x j v (Some b) ss a e = ap (left_over v (Some b)) (rest_none x j ss a e)

-- either way
either : (b : Bool) (o r : Option Number) → o ≡ None → r ≡ None → (if b then o else r) ≡ None
either true o r e f = e
either false o r e f = f

nothing_implied : (side : Side) (j : ℕ) (v : Number) (l u : Option Number) (ss : List Span) → AreSpans 0 ss → may_tell Greatest l ss ≡ false → may_tell Least u ss ≡ false → implied side j v l u ss ≡ None
nothing_implied Lower j v l u ss a e f = either (lt_ℚ zero_ℚ v) (left_over v l (rest Greatest j ss)) (left_over v u (rest Least j ss)) (nothing_left Greatest j v l ss a e) (nothing_left Least j v u ss a f)
nothing_implied Upper j v l u ss a e f = either (lt_ℚ zero_ℚ v) (left_over v u (rest Least j ss)) (left_over v l (rest Greatest j ss)) (nothing_left Least j v u ss a f) (nothing_left Greatest j v l ss a e)

and_false : (b : Bool) → (b && false) ≡ false
and_false true = refl
and_false false = refl

not_tight : (b : Sides) (ss : List Span) (s : Span) (side : Side) → AreSpans 0 ss → may_tighten b ss ≡ false → is_tight b ss s side ≡ false
not_tight b ss s side a e = let h = or_parts (may_tell Greatest b.lower ss) (may_tell Least b.upper ss) e in
    ap (λ (o : Option Number). not s.semi && is_better side (old_bound side s.lower s.upper) o) (nothing_implied side s.id s.value b.lower b.upper ss a h.0 h.1) ∙ and_false (not s.semi)

none_found : (b : Sides) (ss ts : List Span) → AreSpans 0 ss → may_tighten b ss ≡ false → found_among b ss ts ≡ []
none_found b ss [] a e = refl
none_found b ss (s ∷ ts) a e =
    ap₂ (λ (x y : Bool). (bound_if x s.id Lower ++ bound_if y s.id Upper) ++ found_among b ss ts) (not_tight b ss s Lower a e) (not_tight b ss s Upper a e)
    ∙ none_found b ss ts a e

pub none_told : (p : Sparse) (i : ℕ) (x : List (ℕ × Side)) → is_looked_at p i ≡ true → IsSparse p → may_tighten (sides_at p i) (spans_of p i) ≡ false → x ≡ x ++ filter (λ y. enabled p i y.0 y.1) (bounds_of (row_entries p i))
none_told p i x e s h = all_found p i (spans_of p i) (sides_at p i) x x e s refl refl
    (sym (ap (λ (l : List (ℕ × Side)). x ++ l) (none_found (sides_at p i) (spans_of p i) (spans_of p i) (spans_of-are p i s) h) ∙ append-nil x))

-- ---- counted ends
one_is : (es : List (Option Number)) → ltb (infinite_count es + 1) 2 ≡ all_finite es
one_is [] = refl
one_is (Some q ∷ es) = one_is es
one_is (None ∷ es) = le-ltb (infinite_count es + 1 + 1) 2 (two (infinite_count es))
  where
    two : (n : ℕ) → 2 ≤ n + 1 + 1
    two n = omega arith

few_is : (es : List (Option Number)) → ltb (infinite_count es) 2 ≡ at_most_one_infinite es
few_is [] = refl
few_is (Some q ∷ es) = few_is es
few_is (None ∷ es) = one_is es

pub few_told : (es : List (Option Number)) (s : CommonSum) → IsCommonSum es s → ltb s.infinite 2 ≡ at_most_one_infinite es
few_told es s h = ap (λ (n : ℕ). ltb n 2) h.infinite ∙ few_is es
