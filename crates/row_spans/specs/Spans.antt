-- The entries of a row with the bounds of their columns.
use Rattle.std.specs.Prelude.{◌≢◌, ℕ, suc, ◌≤◌, ⊤, slice_index_or, not, nat_eq, true, false, Option, Some, None, option_map, List, [], ◌∷◌, map}
use Rattle.std.specs.List.{filter}
use Rattle.fractions.specs.Number.{Number, zero_ℚ}
use Rattle.lp_model.specs.declared.terms.Term.{Term}
use Rattle.lp_theory.specs.Activities.{least_term, greatest_term}
use Rattle.problem_model.specs.declared.part.Contents.{Contents}
use Rattle.problem_model.specs.declared.part.Contents.TheVariants as holds
use Rattle.problem_model.specs.Matrices.{live_only}
use Rattle.problem_model.specs.Problems.{row_entries, bounds_at}
use Rattle.problem_model.specs.Sparse.{Sparse}
use Rattle.row_spans.specs.declared.span.Span.{Span}
use Rattle.row_spans.specs.declared.span.Extreme.{Extreme}
use Rattle.row_spans.specs.declared.span.Extreme.TheVariants.{Least, Greatest}
use Rattle.lp_model.specs.Gaps.{hull_lower, hull_upper}
use Rattle.problem_model.specs.Showing.{reach_low, reach_high}

-- an entry with its column's bounds
abbrev pub span_of : Sparse → Term → Span
span_of p t = record { id = t.id; value = t.value; lower = reach_low (bounds_at p t.id); upper = reach_high (bounds_at p t.id); whole = (bounds_at p t.id).whole; semi = (bounds_at p t.id).semi }

-- of terms, those at live columns with their bounds
abbrev pub spans_among : Sparse → List Term → List Span
spans_among p ts = map (span_of p) (live_only p.matrix.columns ts)

-- those of row i
abbrev pub spans_of : Sparse → ℕ → List Span
spans_of p i = map (span_of p) (row_entries p i)

-- the least, or the greatest, that an entry gives its row within its column's bounds; none where there is no end
abbrev pub end_at : Extreme → Span → Option Number
end_at Least s = least_term s.value s.lower s.upper
end_at Greatest s = greatest_term s.value s.lower s.upper

abbrev pub ends_at : Extreme → List Span → List (Option Number)
ends_at extreme ss = map (end_at extreme) ss

-- the spans of other columns than j
abbrev pub others : ℕ → List Span → List Span
others j ss = filter (λ s. not (nat_eq s.id j)) ss

-- all, or all but those of a column that is left out
abbrev pub left_in : Option ℕ → List Span → List Span
left_in None ss = ss
left_in (Some j) ss = others j ss

-- ids ascend from m on, and no entry is 0
abbrev pub AreSpans : ℕ → List Span → Type 0
AreSpans m [] = ⊤
AreSpans m (s ∷ ss) = (m ≤ s.id) × (s.value ≢ zero_ℚ) × AreSpans (suc s.id) ss

-- stands for a span past the last
abbrev pub no_span : Span
no_span = record { id = 0; value = zero_ℚ; lower = None; upper = None; whole = false; semi = false }

abbrev pub span_at : List Span → ℕ → Span
span_at ss k = slice_index_or ss k no_span

-- a span more, if there are some
abbrev pub joined : Span → Option (List Span) → Option (List Span)
joined s o = option_map (λ ss. s ∷ ss) o

-- the spans of entries and what was read of their columns' bounds, in their order; none where something else was read
abbrev pub spans_from : List Term → List Contents → Option (List Span)
spans_from [] [] = Some []
spans_from [] (c ∷ cs) = None
spans_from (t ∷ ts) [] = None
spans_from (t ∷ ts) (holds.Bounds l u w ∷ cs) = joined (record { id = t.id; value = t.value; lower = l; upper = u; whole = w; semi = false }) (spans_from ts cs)
spans_from (t ∷ ts) (holds.Semi l u w ∷ cs) = joined (record { id = t.id; value = t.value; lower = hull_lower l u; upper = hull_upper l u; whole = w; semi = true }) (spans_from ts cs)
spans_from (t ∷ ts) (holds.Gone ∷ cs) = None
spans_from (t ∷ ts) (holds.Entries es ∷ cs) = None
spans_from (t ∷ ts) (holds.Sides l u ∷ cs) = None
spans_from (t ∷ ts) (holds.Column es c ∷ cs) = None
