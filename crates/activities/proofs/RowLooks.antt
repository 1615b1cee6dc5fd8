-- What the looks at a row say, and its entries.
use Rattle.std.proofs.Common.{◌≡◌, ◌≢◌, ℕ, Bool, true, false, not, ◌&&◌, nat_eq, List, [], ◌∷◌, length, map, refl, sym, ap, ◌∙◌, arith, ◌+◌}
use Rattle.std.specs.Prelude.{if◌then◌else◌}
use Rattle.std.proofs.lemmas.Bool.{ne_eqb}
use Rattle.fractions.specs.Number.{zero_ℚ}
use Rattle.lp_model.specs.declared.terms.Term.{Term}
use Rattle.lp_model.specs.EndTests.{is_in_order}
use Rattle.lp_model.specs.Sparse.{dense, has}
use Rattle.problem_model.specs.Problems.{column_at, row_at, row_entries, sides_at, IsSparse}
use Rattle.problem_model.specs.Sparse.{Sparse}
use Rattle.problem_laws.proofs.Entries.{dense-live_only, row_entries-ascend}
use Rattle.problem_laws.proofs.Terms.{dense-named}
use Rattle.row_spans.specs.declared.span.Span.{Span}
use Rattle.row_spans.specs.Spans.{span_of, spans_of}
use Rattle.kept_sums.specs.KeptSums.{crossed_count}
use Rattle.activity_laws.specs.Rows.{RowTest, all_in_order, has_some, on_row, row_found}
use Rattle.activity_laws.proofs.Rows.{tested}
use Rattle.activities.specs.Rows.{is_uncrossed}

-- the tests in another order
regroup : (a b c d : Bool) → (a && (b && (c && d))) ≡ ((a && (b && c)) && d)
regroup false b c d = refl
regroup true false c d = refl
regroup true true c d = refl

-- a test of a row: nothing is crossed, and it holds
pub split : (test : RowTest) (p : Sparse) (i : ℕ) → on_row test (row_found p i) ≡ (is_uncrossed p i && test (sides_at p i).lower (sides_at p i).upper (spans_of p i))
split test p i = tested test p i ∙ regroup (row_at p i).live (is_in_order (sides_at p i).lower (sides_at p i).upper) (all_in_order (spans_of p i)) (test (sides_at p i).lower (sides_at p i).upper (spans_of p i))

-- a row has an entry where it has some terms
some_of : (p : Sparse) (ts : List Term) → has_some (map (span_of p) ts) ≡ not (nat_eq (length ts) 0)
some_of p [] = refl
some_of p (t ∷ ts) = sym (ap not (ne_eqb (length (t ∷ ts)) 0 (λ e. absurd (omega (arith, e)))))

pub has_some_is : (p : Sparse) (i : ℕ) → has_some (spans_of p i) ≡ not (nat_eq (length (row_entries p i)) 0)
has_some_is p i = some_of p (row_entries p i)

-- counted crossed bounds
pub none_crossed : (ss : List Span) → nat_eq (crossed_count ss) 0 ≡ all_in_order ss
none_crossed [] = refl
none_crossed (s ∷ ss) = by (is_in_order s.lower s.upper) (crossed_count ss) (none_crossed ss)
  where
    by : (b : Bool) (n : ℕ) → nat_eq n 0 ≡ all_in_order ss → nat_eq ((if b then 0 else 1) + n) 0 ≡ (b && all_in_order ss)
    by true n h = ap (λ (m : ℕ). nat_eq m 0) (plain n) ∙ h
      where
        plain : (m : ℕ) → 0 + m ≡ m
        plain m = omega arith
    by false n h = ne_eqb (1 + n) 0 (omega arith)

-- a row has no entry in a column that is gone
pub none_in : (p : Sparse) (i j : ℕ) → (column_at p j).live ≡ false → dense (row_entries p i) j ≡ zero_ℚ
none_in p i j e = dense-live_only p.matrix.columns j (row_at p i).entries ∙ ap (λ (on : Bool). if on then dense (row_at p i).entries j else zero_ℚ) e

-- and the entry isn't 0
pub entry_in : (p : Sparse) (i j : ℕ) → IsSparse p → has j (row_entries p i) ≡ true → dense (row_entries p i) j ≢ zero_ℚ
entry_in p i j s e = dense-named j (row_entries p i) 0 (length p.matrix.columns) (row_entries-ascend p i s) e
