-- What is read of a row of a problem.
use Rattle.std.proofs.Common.{◌≡◌, ℕ, suc, Bool, true, false, List, [], ◌∷◌, map, Option, Some, refl, ap, ◌∙◌, length}
use Rattle.std.specs.Prelude.{if◌then◌else◌}
use Rattle.std.specs.List.{All}
use Rattle.std.proofs.lemmas.List.Elements.{All-head, All-tail}
use Rattle.lp_model.specs.declared.terms.Term.{Term}
use Rattle.lp_model.specs.Sparse.{Ascends}
use Rattle.problem_model.specs.declared.part.Contents.TheVariants as holds
use Rattle.problem_model.specs.declared.part.Part.TheVariants as part
use Rattle.fractions.specs.Number.{Number}
use Rattle.lp_model.specs.Gaps.{reach_lower, reach_upper}
use Rattle.problem_model.specs.declared.part.Contents.{Contents}
use Rattle.problem_model.specs.Parts.{bounds_held, contents_of}
use Rattle.problem_model.specs.Problems.{row_entries, column_at, bounds_at, IsSparse}
use Rattle.problem_model.specs.Sparse.{Sparse}
use Rattle.problem_laws.proofs.Entries.{row_entries-live, row_entries-ascend}
use Rattle.row_spans.specs.Spans.{span_of, spans_of, spans_from, joined, AreSpans}

-- the spans of terms are spans
pub are_spans : (p : Sparse) (ts : List Term) (m n : ℕ) → Ascends m n ts → AreSpans m (map (span_of p) ts)
are_spans p [] m n a = tt
are_spans p (t ∷ ts) m n a = (a.0, a.2, are_spans p ts (suc t.id) n a.3)

pub spans_of-are : (p : Sparse) (i : ℕ) → IsSparse p → AreSpans 0 (spans_of p i)
spans_of-are p i s = are_spans p (row_entries p i) 0 (length p.matrix.columns) (row_entries-ascend p i s)

-- what one column's bounds hold, of either kind
one_read : (t : Term) (ts : List Term) (semi : Bool) (l u : Option Number) (w : Bool) (cs : List Contents)
    → spans_from (t ∷ ts) (bounds_held semi l u w ∷ cs) ≡ joined (record { id = t.id; value = t.value; lower = reach_lower semi l u; upper = reach_upper semi l u; whole = w; semi = semi }) (spans_from ts cs)
one_read t ts true l u w cs = refl
one_read t ts false l u w cs = refl

-- what is read of live columns gives their spans
spans_read : (p : Sparse) (ts : List Term) → All (λ t. (column_at p t.id).live ≡ true) ts → spans_from ts (map (contents_of p) (map (λ t. part.Bounds t.id) ts)) ≡ Some (map (span_of p) ts)
spans_read p [] h = refl
spans_read p (t ∷ ts) h =
    ap (λ (b : Bool). spans_from (t ∷ ts) ((if b then bounds_held (bounds_at p t.id).semi (bounds_at p t.id).lower (bounds_at p t.id).upper (bounds_at p t.id).whole else holds.Gone) ∷ map (contents_of p) (map (λ t. part.Bounds t.id) ts))) (All-head (λ t. (column_at p t.id).live ≡ true) t ts h)
    ∙ one_read t ts (bounds_at p t.id).semi (bounds_at p t.id).lower (bounds_at p t.id).upper (bounds_at p t.id).whole (map (contents_of p) (map (λ t. part.Bounds t.id) ts))
    ∙ ap (joined (span_of p t)) (spans_read p ts (All-tail (λ t. (column_at p t.id).live ≡ true) t ts h))

pub row_is_read : (p : Sparse) (i : ℕ) → spans_from (row_entries p i) (map (contents_of p) (map (λ t. part.Bounds t.id) (row_entries p i))) ≡ Some (spans_of p i)
row_is_read p i = spans_read p (row_entries p i) (row_entries-live p i)
