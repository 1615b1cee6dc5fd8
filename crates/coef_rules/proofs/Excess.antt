-- Where a coefficient is tightened is told by what its row passes its side by.
use Rattle.std.proofs.Common.{◌≡◌, ℕ, nat_eq, Bool, true, false, true≢false, cond, ◌||◌, List, [], ◌∷◌, map, Option, Some, None, Ok, refl, sym, ap, ◌∙◌, subst}
use Rattle.std.specs.Prelude.{if◌then◌else◌}
use Rattle.fractions.specs.Number.{Number, zero_ℚ, ◌-ℚ◌}
use Rattle.fractions.specs.Order.{◌<ℚ◌}
use Rattle.fractions.specs.Compare.{lt_ℚ}
use Rattle.fractions.specs.Comparisons.{lt_ℚ-is}
use Rattle.fractions.specs.MinMax.{abs_ℚ}
use Rattle.lp_model.specs.declared.terms.Term.{Term}
use Rattle.undo_records.specs.declared.side.Side.{Side}
use Rattle.problem_model.specs.Matrices.{live_only}
use Rattle.problem_model.specs.Problems.{column_at, row_at}
use Rattle.problem_model.specs.Sparse.{Sparse}
use Rattle.row_spans.specs.declared.span.Span.{Span}
use Rattle.row_spans.specs.RowSums.{activity}
use Rattle.row_spans.specs.Spans.{AreSpans, span_of, spans_of}
use Rattle.activity_laws.specs.BoundTightening.{entry_at}
use Rattle.coef_laws.specs.CoefficientTightening.{extreme_of, tightened_in, turned}
use Rattle.coef_laws.specs.declared.tightening.Tightening.{Tightening}
use Rattle.coef_laws.proofs.Excess.{within}
use Rattle.coef_rules.specs.Columns.{any_longer, IsExcess, NoneTightened}

is_below : (p q : Number) → p <ℚ q → lt_ℚ p q ≡ true
is_below p q h = (lt_ℚ-is p q).1 h

span_is : (s t : Span) → Some s ≡ Some t → s ≡ t
span_is s t e = cc

most_is : (p q : Number) → Some p ≡ Some q → p ≡ q
most_is p q g = cc

none_if : (o : Option Tightening) → ((t : Tightening) → o ≡ Some t → ⊥) → o ≡ None
none_if None h = refl
none_if (Some t) h = absurd (h t refl)

pub none_infinite : (f : Side) (b : Number) (ss : List Span) → AreSpans 0 ss → activity (extreme_of f) ss ≡ Ok None → NoneTightened f b ss
none_infinite f b ss a e j = none_if (tightened_in f b j ss) (λ t g. some_not (within f b j ss t None a g e).finite)
  where
    some_not : {q : Number} → ◌≡◌ {A = Option Number} None (Some q) → ⊥
    some_not g = cc

pub none_passed : (f : Side) (b x : Number) (ss : List Span) → AreSpans 0 ss → IsExcess f b ss x → lt_ℚ zero_ℚ x ≡ false → NoneTightened f b ss
none_passed f b x ss a k e j = none_if (tightened_in f b j ss) (λ t g.
    let w = within f b j ss t (Some k.0) a g k.1 in
    true≢false (sym (is_below zero_ℚ x (subst (λ y. zero_ℚ <ℚ y) (ap (λ y. turned f y -ℚ turned f b) (sym (most_is k.0 w.most w.finite)) ∙ sym k.2) w.positive)) ∙ e))

-- no entry is longer than what a row passes its side by
longer_parts : (b c : Bool) → (b || c) ≡ false → (b ≡ false) × (c ≡ false)
longer_parts true c h = absurd (true≢false h)
longer_parts false c h = (refl, h)

any_of : (x : Number) (ts : List Term) → any_longer x ts ≡ false → (p : Sparse) (j : ℕ) (s : Span) → entry_at j (map (span_of p) (live_only p.matrix.columns ts)) ≡ Some s → lt_ℚ x (abs_ℚ s.value) ≡ false
any_of x [] e p j s g = cc
any_of x (t ∷ ts) e p j s g = by (column_at p t.id).live (longer_parts (lt_ℚ x (abs_ℚ t.value)) (any_longer x ts) e).0 (any_of x ts (longer_parts (lt_ℚ x (abs_ℚ t.value)) (any_longer x ts) e).1 p j s) g
  where
    here : (b : Bool) → lt_ℚ x (abs_ℚ t.value) ≡ false → (entry_at j (map (span_of p) (live_only p.matrix.columns ts)) ≡ Some s → lt_ℚ x (abs_ℚ s.value) ≡ false)
        → (if b then Some (span_of p t) else entry_at j (map (span_of p) (live_only p.matrix.columns ts))) ≡ Some s → lt_ℚ x (abs_ℚ s.value) ≡ false
    here true k ih h = subst (λ (u : Span). lt_ℚ x (abs_ℚ u.value) ≡ false) (span_is (span_of p t) s h) k
    here false k ih h = ih h

    by : (l : Bool) → lt_ℚ x (abs_ℚ t.value) ≡ false → (entry_at j (map (span_of p) (live_only p.matrix.columns ts)) ≡ Some s → lt_ℚ x (abs_ℚ s.value) ≡ false)
        → entry_at j (map (span_of p) (cond l (t ∷ live_only p.matrix.columns ts) (live_only p.matrix.columns ts))) ≡ Some s → lt_ℚ x (abs_ℚ s.value) ≡ false
    by true k ih h = here (nat_eq t.id j) k ih h
    by false k ih h = ih h

pub none_longer : (p : Sparse) (i : ℕ) (f : Side) (b x : Number) → AreSpans 0 (spans_of p i) → IsExcess f b (spans_of p i) x → any_longer x (row_at p i).entries ≡ false → NoneTightened f b (spans_of p i)
none_longer p i f b x a k e j = none_if (tightened_in f b j (spans_of p i)) (λ t g.
    let w = within f b j (spans_of p i) t (Some k.0) a g k.1 in
    true≢false (sym (is_below x (abs_ℚ w.span.value) (subst (λ y. y <ℚ abs_ℚ w.span.value) (ap (λ y. turned f y -ℚ turned f b) (sym (most_is k.0 w.most w.finite)) ∙ sym k.2) w.below))
    ∙ any_of x (row_at p i).entries e p j w.span w.entry))
