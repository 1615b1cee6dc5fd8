-- Edits after which the entries of rows within the bounds of their columns are as they were.
use Rattle.std.proofs.Common.{◌≡◌, ◌≢◌, ℕ, true, false, List, [], ◌∷◌, map, refl, sym, ap, ap₂, ◌∙◌}
use Rattle.fractions.specs.Number.{Number}
use Rattle.lp_model.specs.declared.terms.Term.{Term}
use Rattle.lp_model.specs.Sparse.{has}
use Rattle.problem_model.specs.declared.line.Line.{Line}
use Rattle.problem_model.specs.declared.line.Bounds.{Bounds}
use Rattle.problem_model.specs.declared.part.Part.{Part}
use Rattle.problem_model.specs.Edits.{entry_set}
use Rattle.problem_model.specs.Matrices.{live_only}
use Rattle.problem_model.specs.Problems.{column_at, row_at, row_entries}
use Rattle.problem_model.specs.Raised.{numbered}
use Rattle.problem_model.specs.Showing.{reach_high, reach_low}
use Rattle.problem_model.specs.Sparse.{Sparse}
use Rattle.entry_lines.specs.Putting.{entries_set}
use Rattle.row_spans.specs.declared.span.Span.{Span}
use Rattle.row_spans.specs.Spans.{span_of, spans_of}
use Rattle.problem_laws.proofs.Entries.{live_only-same}
use Rattle.problem_laws.proofs.EntriesKept.{put-other_line, put_column_live}
use Rattle.problem_laws.proofs.Numbering.{rows_like, columns_like, bounds_like}
use Rattle.problem_laws.proofs.Terms.{has-cons_other, has-cons_same, not_both}

all_spans : (p q : Sparse) → ((t : Term) → span_of q t ≡ span_of p t) → (ts : List Term) → map (span_of q) ts ≡ map (span_of p) ts
all_spans p q e [] = refl
all_spans p q e (t ∷ ts) = ap₂ (λ (s : Span) (ss : List Span). s ∷ ss) (e t) (all_spans p q e ts)

-- ---- numbers of changes
pub numbered_spans : (p : Sparse) (number : Part → ℕ) (i : ℕ) → spans_of (numbered p number) i ≡ spans_of p i
numbered_spans p number i =
    all_spans p (numbered p number) same (row_entries (numbered p number) i)
    ∙ ap (map (span_of p)) (live_only-same p.matrix.columns (numbered p number).matrix.columns (columns_like p number).live (row_at (numbered p number) i).entries
    ∙ ap (live_only p.matrix.columns) ((rows_like p number).entries i))
  where
    same : (t : Term) → span_of (numbered p number) t ≡ span_of p t
    same t = λ z. record {
      id = t.id;
      value = t.value;
      lower = bounds_like p number reach_low (λ n x. refl) t.id z;
      upper = bounds_like p number reach_high (λ n x. refl) t.id z;
      whole = bounds_like p number (λ (b : Bounds). b.whole) (λ n x. refl) t.id z;
      semi = bounds_like p number (λ (b : Bounds). b.semi) (λ n x. refl) t.id z;
    }

-- ---- entries of other rows
entry_other : (p : Sparse) (m k : ℕ) (c : Number) → (column_at p k).live ≡ true → (i : ℕ) → i ≢ m → spans_of (entry_set p m k c) i ≡ spans_of p i
entry_other p m k c column i n = ap (map (span_of p))
    (live_only-same p.matrix.columns (entry_set p m k c).matrix.columns (put_column_live p m k c column) (row_at (entry_set p m k c) i).entries
    ∙ ap (λ (l : Line). live_only p.matrix.columns l.entries) (put-other_line p.matrix.rows m k c i n))

pub entries_other : (ts : List Term) (p : Sparse) (j : ℕ) → (column_at p j).live ≡ true → (i : ℕ) → has i ts ≡ false → spans_of (entries_set p j ts) i ≡ spans_of p i
entries_other [] p j column i h = refl
entries_other (t ∷ ts) p j column i h =
    let n : i ≢ t.id = λ e. not_both (has-cons_same i t ts (sym e)) h in
    entries_other ts (entry_set p t.id j t.value) j (put_column_live p t.id j t.value column j ∙ column) i (sym (has-cons_other i t ts (λ e. n (sym e))) ∙ h)
    ∙ entry_other p t.id j t.value column i n
