-- K13: what its condition asks and says.
use Rattle.std.proofs.Common.{◌≡◌, ◌≢◌, ◌⊎◌, inl, inr, ℕ, Bool, true, false, not, ◌&&◌, List, [], ◌∷◌, map, Option, Some, None, refl, sym, ap, ap₂, ◌∙◌}
use Rattle.std.specs.Prelude.{if◌then◌else◌}
use Rattle.std.proofs.lemmas.Bool.{cases_eq, eq-eqb, ne_eqb}
use Rattle.fractions.specs.Number.{Number}
use Rattle.lp_model.specs.declared.terms.Term.{Term}
use Rattle.lp_model.specs.Sparse.{dense, has}
use Rattle.problem_model.specs.declared.part.Part.TheVariants as part
use Rattle.problem_model.specs.Parts.{contents_of}
use Rattle.problem_model.specs.Problems.{IsSparse, column_at, column_entries, row_at, row_entries, sides_at}
use Rattle.problem_model.specs.Sparse.{Sparse}
use Rattle.problem_laws.proofs.Terms.{dense-cons_other, dense-cons_same, has-cons_other}
use Rattle.rule_words.proofs.EndTestsSay.{not_true}
use Rattle.row_spans.specs.declared.span.Span.{Span}
use Rattle.row_spans.specs.Spans.{span_of, spans_of}
use Rattle.activity_laws.specs.BoundTightening.{entry_at}
use Rattle.activities.specs.Rows.{is_uncrossed}
use Rattle.activities.proofs.RowLooks.{split}
use Rattle.column_laws.specs.SoleEntry.{entry_of, is_sole_at}
use Rattle.column_laws.specs.FreeColumnSingleton.{enabled, is_free, is_free_column_singleton, is_implied, is_implied_at, side_for}
use Rattle.column_laws.proofs.FreeColumnSingleton.{said}
use Rattle.column_rules.proofs.SoleEntries.{row_has, sole_of}

-- ---- the entry of a column, with its bounds
found_at : (p : Sparse) (j : ℕ) (ts : List Term) → has j ts ≡ true → entry_at j (map (span_of p) ts) ≡ Some (span_of p (record { id = j; value = dense ts j }))
found_at p j [] e = absurd (not_true e)
found_at p j (t ∷ ts) e = by (cases_eq t.id j) (λ h. found_at p j ts h)
  where
    there : Bool → Option Span
    there b = if b then Some (span_of p t) else entry_at j (map (span_of p) ts)

    by : (t.id ≡ j) ⊎ (t.id ≢ j) → (has j ts ≡ true → entry_at j (map (span_of p) ts) ≡ Some (span_of p (record { id = j; value = dense ts j })))
        → entry_at j (map (span_of p) (t ∷ ts)) ≡ Some (span_of p (record { id = j; value = dense (t ∷ ts) j }))
    by (inl f) ih = ap there (eq-eqb t.id j f) ∙ ap₂ (λ (k : ℕ) (a : Number). Some (span_of p (record { id = k; value = a }))) f (sym (dense-cons_same t ts j f))
    by (inr d) ih = ap there (ne_eqb t.id j d) ∙ ih (sym (has-cons_other j t ts d) ∙ e)
        ∙ ap (λ (a : Number). Some (span_of p (record { id = j; value = a }))) (sym (dense-cons_other t ts j d))

pub entry_there : (p : Sparse) (j i : ℕ) → IsSparse p → (row_at p i).live ≡ true → (column_at p j).live ≡ true → is_sole_at i (column_entries p j) ≡ true
    → entry_at j (spans_of p i) ≡ Some (span_of p (record { id = j; value = entry_of p j i }))
entry_there p j i s row column e = found_at p j (row_entries p i) (row_has p j i s row column e)

-- ---- where no value of the row implies the bounds, no side frees the column
neither : (a b : Bool) → (a && (b && false)) ≡ false
neither true true = refl
neither true false = refl
neither false b = refl

pub never_free : (j : ℕ) (c : Number) (l u : Option Number) (ss : List Span) (s : Span) → ((v : Number) → is_implied j ss s v ≡ false) → is_free j c l u ss (Some s) ≡ false
never_free j c l u ss s f = ap (λ (b : Bool). not s.whole && (not s.semi && b)) (by (side_for c s.value l u)) ∙ neither (not s.whole) (not s.semi)
  where
    by : (side : Option Number) → is_implied_at j ss s side ≡ false
    by None = refl
    by (Some v) = f v

-- ---- what the condition asks and says
pub enabled_is : (p : Sparse) (j i : ℕ) → enabled p j i ≡ (is_uncrossed p i && is_free_column_singleton j i (contents_of p (part.Col j)) (sides_at p i).lower (sides_at p i).upper (spans_of p i))
enabled_is p j i = split (is_free_column_singleton j i (contents_of p (part.Col j))) p i

pub row_live : (p : Sparse) (j i : ℕ) → enabled p j i ≡ true → (row_at p i).live ≡ true
row_live p j i e = (said p j i e).row_live

pub column_live : (p : Sparse) (j i : ℕ) → enabled p j i ≡ true → (column_at p j).live ≡ true
column_live p j i e = (said p j i e).column.live

pub sole_there : (p : Sparse) (j i : ℕ) → enabled p j i ≡ true → is_sole_at i (column_entries p j) ≡ true
sole_there p j i e = sole_of i (column_entries p j) (said p j i e).column.sole_there
