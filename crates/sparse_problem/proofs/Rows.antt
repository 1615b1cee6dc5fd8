-- The spans of a row after an edit of one of its columns.
use Rattle.std.proofs.Common.{◌≡◌, ◌≢◌, ℕ, Bool, true, false, List, [], ◌∷◌, ◌++◌, map, Option, refl, sym, ap, ap₂, ◌∙◌, subst}
use Rattle.fractions.specs.Number.{Number, zero_ℚ}
use Rattle.lp_model.specs.declared.terms.Term.{Term}
use Rattle.lp_model.specs.Sparse.{dense, has}
use Rattle.problem_model.specs.declared.line.Bounds.{Bounds}
use Rattle.problem_model.specs.Sparse.{Sparse}
use Rattle.problem_model.specs.Edits.{bounds_set, column_deleted, row_deleted}
use Rattle.problem_model.specs.Matrices.{live_only}
use Rattle.problem_model.specs.Problems.{IsSparse, bounds_at, column_at, row_at, row_entries}
use Rattle.row_spans.specs.declared.span.Span.{Span}
use Rattle.row_spans.specs.Spans.{span_of, spans_of}
use Rattle.problem_laws.proofs.AtIds.{bounds_set-same, bounds_set-other, bounds_inside, column_inside}
use Rattle.problem_laws.proofs.Terms.{named_by, without-absent}
use Rattle.problem_laws.proofs.Entries.{row_entries-ascend, row_entries-dense, row_entries-has, entries_name, column_deleted-row_entries, row_deleted-row_entries}
use Rattle.problem_model.specs.Showing.{reach_high, reach_low}
use Rattle.sparse_problem.specs.KeptRows.{span_within}
use Rattle.sparse_problem.proofs.Splitting.{term_at, IsSplit, Split, split, map-++, spans_same}

-- a row that is gone has no entries
no_entries : (p : Sparse) (i : ℕ) → IsSparse p → (row_at p i).live ≡ false → row_entries p i ≡ []
no_entries p i s h = ap (live_only p.matrix.columns) (s.matrix.rows.gone i h)

module _ (p : Sparse) (j : ℕ) (s : IsSparse p) (column : (column_at p j).live ≡ true) where
  -- a row that the column does not name does not name the column
  unnamed : (i : ℕ) → has i (column_at p j).entries ≡ false → has j (row_entries p i) ≡ false
  unnamed i h = by (row_at p i).live refl
    where
      by : (b : Bool) → (row_at p i).live ≡ b → has j (row_entries p i) ≡ false
      by true e = row_entries-has p i j column ∙ entries_name p i j s e column ∙ h
      by false e = ap (has j) (no_entries p i s e)

  module _ (i : ℕ) (a : Number) (row : (row_at p i).live ≡ true) (told : dense (column_at p j).entries i ≡ a) (some : a ≢ zero_ℚ) where
    entry_is : dense (row_entries p i) j ≡ a
    entry_is = row_entries-dense p i j column ∙ s.matrix.agree i j row column ∙ told

    pub entry_split : Split j a (row_entries p i)
    entry_split = subst (λ b. Split j b (row_entries p i)) entry_is
        (split j (row_entries p i) _ _ (row_entries-ascend p i s) (named_by j (row_entries p i) (λ e. some (sym entry_is ∙ e))))

  -- ---- other bounds
  module _ (l u : Option Number) where
    abbrev moved : Sparse
    moved = bounds_set p j l u

    other_span : (k : ℕ) → k ≢ j → (a : Number) → span_of moved (term_at k a) ≡ span_of p (term_at k a)
    other_span k n a = ap (λ (b : Bounds). record { id = k; value = a; lower = reach_low b; upper = reach_high b; whole = b.whole; semi = b.semi }) (bounds_set-other p j l u k n)

    own_span : (a : Number) → span_of moved (term_at j a) ≡ span_within p j a l u
    own_span a = ap (λ (b : Bounds). record { id = j; value = a; lower = reach_low b; upper = reach_high b; whole = b.whole; semi = b.semi }) (bounds_set-same p j l u (bounds_inside p j s column))

    pub moved_unnamed : (i : ℕ) → has i (column_at p j).entries ≡ false → spans_of moved i ≡ spans_of p i
    moved_unnamed i h = spans_same p moved j other_span (row_entries p i) (unnamed i h)

    module _ (i : ℕ) (a : Number) (before after : List Term) (d : IsSplit j a (row_entries p i) before after) where
      pub moved_before : spans_of p i ≡ map (span_of p) before ++ span_within p j a (bounds_at p j).lower (bounds_at p j).upper ∷ map (span_of p) after
      moved_before = ap (map (span_of p)) d.all ∙ map-++ (span_of p) before (term_at j a ∷ after)

      pub moved_after : spans_of moved i ≡ map (span_of p) before ++ span_within p j a l u ∷ map (span_of p) after
      moved_after = ap (map (span_of moved)) d.all ∙ map-++ (span_of moved) before (term_at j a ∷ after)
          ∙ ap₂ (λ (x y : List Span). x ++ y) (spans_same p moved j other_span before d.none_before)
          (ap₂ (λ (x : Span) (y : List Span). x ∷ y) (own_span a) (spans_same p moved j other_span after d.none_after))

  -- ---- the column is deleted
  pub deleted_unnamed : (i : ℕ) → has i (column_at p j).entries ≡ false → spans_of (column_deleted p j) i ≡ spans_of p i
  deleted_unnamed i h = ap (map (span_of p)) (column_deleted-row_entries p j (column_inside p j column) i ∙ without-absent j (row_entries p i) (unnamed i h))

  module _ (i : ℕ) (a : Number) (before after : List Term) (d : IsSplit j a (row_entries p i) before after) where
    pub deleted_after : spans_of (column_deleted p j) i ≡ map (span_of p) before ++ map (span_of p) after
    deleted_after = ap (map (span_of p)) (column_deleted-row_entries p j (column_inside p j column) i ∙ d.others) ∙ map-++ (span_of p) before after

-- ---- a row is deleted
pub row_deleted_other : (p : Sparse) (i k : ℕ) → k ≢ i → spans_of (row_deleted p i) k ≡ spans_of p k
row_deleted_other p i k n = ap (map (span_of p)) (row_deleted-row_entries p i k n)
