-- Where two terms of a row are infinite, one is left without a column.
use Rattle.std.proofs.Common.{◌≡◌, ◌≢◌, ◌⊎◌, inl, inr, ℕ, suc, ◌<◌, ◌≤◌, Bool, false, not, List, [], ◌∷◌, Option, Some, None, Ok, arith, refl, ap, subst, sym, ◌∙◌}
use Rattle.std.specs.Prelude.{if◌then◌else◌}
use Rattle.std.proofs.lemmas.Bool.{cases_eq, eq-eqb, ne_eqb}
use Rattle.fractions.specs.Number.{Number}
use Rattle.row_spans.specs.declared.span.Span.{Span}
use Rattle.row_spans.specs.declared.span.Extreme.{Extreme}
use Rattle.row_spans.specs.RowSums.{activity, all_finite}
use Rattle.row_spans.specs.Spans.{end_at, ends_at, others, AreSpans}
use Rattle.kept_sums.specs.CommonSums.{infinite_count, plus_infinite}
use Rattle.activities.proofs.Pieces.{none_below}

one_more : (e : Option Number) (m n : ℕ) → m ≤ suc n → plus_infinite e m ≤ suc (plus_infinite e n)
one_more None m n l = omega (arith, l)
one_more (Some q) m n l = l

at_most_one : (e : Option Number) (n : ℕ) → plus_infinite e n ≤ suc n
at_most_one None n = omega arith
at_most_one (Some q) n = omega arith

one_fewer : (x : Extreme) (j m : ℕ) (ss : List Span) → AreSpans m ss → infinite_count (ends_at x ss) ≤ suc (infinite_count (ends_at x (others j ss)))
one_fewer x j m [] a = omega arith
one_fewer x j m (s ∷ ss) a = by (cases_eq s.id j) (one_fewer x j (suc s.id) ss a.2)
  where
    count : List Span → ℕ
    count ts = infinite_count (ends_at x ts)

    by : (s.id ≡ j) ⊎ (s.id ≢ j) → count ss ≤ suc (count (others j ss)) → count (s ∷ ss) ≤ suc (count (others j (s ∷ ss)))
    by (inl e) ih =
        let o : others j (s ∷ ss) ≡ ss = ap (λ (b : Bool). if not b then s ∷ others j ss else others j ss) (eq-eqb s.id j e) ∙ none_below j (suc s.id) ss (omega (arith, e)) a.2 in
        subst (λ (ts : List Span). count (s ∷ ss) ≤ suc (count ts)) (sym o) (at_most_one (end_at x s) (count ss))
    by (inr n) ih =
        let o : others j (s ∷ ss) ≡ s ∷ others j ss = ap (λ (b : Bool). if not b then s ∷ others j ss else others j ss) (ne_eqb s.id j n) in
        subst (λ (ts : List Span). count (s ∷ ss) ≤ suc (count ts)) (sym o) (one_more (end_at x s) (count ss) (count (others j ss)) ih)

not_finite : (es : List (Option Number)) → 0 < infinite_count es → all_finite es ≡ false
not_finite [] l = absurd (omega (arith, l))
not_finite (None ∷ es) l = refl
not_finite (Some q ∷ es) l = not_finite es l

pub infinite_still : (x : Extreme) (j : ℕ) (ss : List Span) → AreSpans 0 ss → 1 < infinite_count (ends_at x ss) → activity x (others j ss) ≡ Ok None
infinite_still x j ss a l =
    let f = one_fewer x j 0 ss a in
    let n = not_finite (ends_at x (others j ss)) (omega (arith, f, l)) in
    rw n refl
