-- What a sum of a whole row tells of its activity without one of its columns.
use Rattle.std.proofs.Common.{◌≡◌, ◌≢◌, ℕ, Bool, List, [], ◌∷◌, ◌++◌, map, true, false, Option, Ok, refl, sym, ap, ◌∙◌, subst}
use Rattle.std.specs.Prelude.{if◌then◌else◌, not, nat_eq}
use Rattle.fractions.specs.Number.{Number, zero_ℚ}
use Rattle.lp_model.specs.declared.terms.Term.{Term}
use Rattle.lp_model.specs.Sparse.{dense, without}
use Rattle.problem_model.specs.Problems.{IsSparse, column_at, row_at, row_entries}
use Rattle.problem_model.specs.Sparse.{Sparse}
use Rattle.problem_laws.proofs.Entries.{row_entries-ascend, row_entries-dense}
use Rattle.problem_laws.proofs.Terms.{named_by}
use Rattle.row_spans.specs.declared.span.Span.{Span}
use Rattle.row_spans.specs.declared.span.Extreme.{Extreme}
use Rattle.row_spans.specs.RowSums.{activity, row_sum}
use Rattle.row_spans.specs.Spans.{end_at, ends_at, others, span_of, spans_of}
use Rattle.kept_sums.specs.CommonSums.{IsCommonSum}
use Rattle.kept_sums.specs.declared.common.CommonSum.{CommonSum}
use Rattle.kept_sums.proofs.Mended.{ends_at-++}
use Rattle.sparse_problem.proofs.Splitting.{term_at, Split, split, map-++}

-- the spans of other columns are those of the terms of other columns
others_spans : (p : Sparse) (j : ℕ) (ts : List Term) → others j (map (span_of p) ts) ≡ map (span_of p) (without j ts)
others_spans p j [] = refl
others_spans p j (t ∷ ts) = by (not (nat_eq t.id j)) (others_spans p j ts)
  where
    by : (b : Bool) → others j (map (span_of p) ts) ≡ map (span_of p) (without j ts)
        → (if b then span_of p t ∷ others j (map (span_of p) ts) else others j (map (span_of p) ts)) ≡ map (span_of p) (if b then t ∷ without j ts else without j ts)
    by true ih = ap (λ (ss : List Span). span_of p t ∷ ss) ih
    by false ih = ih

module _ (p : Sparse) (i j : ℕ) (extreme : Extreme) (s : IsSparse p) (column : (column_at p j).live ≡ true) (some : dense (row_at p i).entries j ≢ zero_ℚ) where
  abbrev entry : Number
  entry = dense (row_at p i).entries j

  pieces_of : Split j entry (row_entries p i)
  pieces_of = let e = row_entries-dense p i j column in
      subst (λ b. Split j b (row_entries p i)) e (split j (row_entries p i) _ _ (row_entries-ascend p i s) (named_by j (row_entries p i) (λ z. some (sym e ∙ z))))

  pub told_is : (sum : CommonSum) (e o : Option Number) → e ≡ end_at extreme (span_of p (term_at j entry)) → IsCommonSum (ends_at extreme (spans_of p i)) sum
      → ((a b : List (Option Number)) → IsCommonSum (a ++ e ∷ b) sum → row_sum (a ++ b) ≡ Ok o) → activity extreme (others j (spans_of p i)) ≡ Ok o
  told_is sum e o is h f =
      let d = pieces_of in
      let before : List Span = map (span_of p) d.before in
      let after : List Span = map (span_of p) d.after in
      ap (activity extreme) (others_spans p j (row_entries p i) ∙ ap (map (span_of p)) d.split.others ∙ map-++ (span_of p) d.before d.after)
      ∙ ap row_sum (ends_at-++ extreme before after)
      ∙ f (ends_at extreme before) (ends_at extreme after)
      (subst (λ (x : Option Number). IsCommonSum (ends_at extreme before ++ x ∷ ends_at extreme after) sum) (sym is)
      (subst (λ (es : List (Option Number)). IsCommonSum es sum)
      (ap (ends_at extreme) (ap (map (span_of p)) d.split.all ∙ map-++ (span_of p) d.before (term_at j entry ∷ d.after)) ∙ ends_at-++ extreme before (span_of p (term_at j entry) ∷ after)) h))
