-- What the looks at two columns say.
use Rattle.std.proofs.Common.{◌≡◌, ◌≢◌, ℕ, Bool, true, false, not, ◌&&◌, nat_eq, List, [], ◌∷◌, Option, Some, None, is_none, sym, refl, ap, ◌∙◌, true≢false}
use Rattle.std.specs.Prelude.{if◌then◌else◌}
use Rattle.std.specs.List.{All}
use Rattle.fractions.specs.Number.{Number, zero_ℚ, ◌*ℚ◌}
use Rattle.fractions.specs.Compare.{eq_ℚ}
use Rattle.fractions.specs.Division.{◌/ℚ◌}
use Rattle.lp_model.specs.declared.terms.Term.{Term}
use Rattle.problem_model.specs.declared.part.Contents.TheVariants as holding
use Rattle.problem_model.specs.Matrices.{live_only}
use Rattle.problem_model.specs.Problems.{IsSparse, bounds_at, column_at, column_entries, cost_at}
use Rattle.problem_model.specs.Sparse.{Sparse}
use Rattle.problem_laws.proofs.Entries.{column_entries-none_zero}
use Rattle.row_spans.specs.Exact.{fits}
use Rattle.rule_words.specs.Multiples.{are_times, factor_of}
use Rattle.parallel_laws.specs.ParallelColumns.{are_in_order, are_of_a_kind, enabled, factor, is_multiple, is_parallel}
use Rattle.parallel_laws.proofs.ParallelColumns as law
use Rattle.parallel_column_rules.specs.Looks.{are_two, factor_if, held, joins_if}
use Rattle.parallel_column_rules.specs.Walks.{first_over}
use Rattle.parallel_column_rules.proofs.EntryWalks.{first_made}

-- ---- what a condition that holds says
pub first_live : (p : Sparse) (j k : ℕ) → enabled p j k ≡ true → (column_at p j).live ≡ true
first_live p j k e = (law.said p j k e).first_live

pub second_live : (p : Sparse) (j k : ℕ) → enabled p j k ≡ true → (column_at p k).live ≡ true
second_live p j k e = (law.said p j k e).second_live

pub factor_some : (p : Sparse) (j k : ℕ) → IsSparse p → enabled p j k ≡ true → factor p j k ≢ zero_ℚ
factor_some p j k s e = law.factor_some p s j k (law.said p j k e)

pub none_zero : (p : Sparse) (k : ℕ) → IsSparse p → All (λ t. t.value ≢ zero_ℚ) (live_only p.matrix.rows (column_at p k).entries)
none_zero p k s = column_entries-none_zero p k s

-- there is a quotient of the first entries
factor_made : (p : Sparse) (j k : ℕ) → enabled p j k ≡ true → factor_if p j k ≡ Some (factor p j k)
factor_made p j k e = let f = law.said p j k e in first_made (column_entries p j) (column_entries p k) f.some f.room f.entries

pub not_none : (p : Sparse) (j k : ℕ) (o : Option Number) → enabled p j k ≡ true → o ≡ factor_if p j k → o ≡ None → ⊥
not_none p j k o e f g = true≢false (ap is_none (sym g ∙ f ∙ factor_made p j k e))

-- ---- the tests one by one
none_of : (a b : Bool) → (a && (b && false)) ≡ false
none_of true true = refl
none_of true false = refl
none_of false b = refl

and_none : (a : Bool) → (a && false) ≡ false
and_none true = refl
and_none false = refl

-- the test of a quotient that is made, where it is of the first entries
by_first : (R : Option Number → Bool) (K : Number → Bool) (o : Bool) (ts us : List Term) (c d : Number) → R None ≡ false
    → ((s : Number) → R (Some s) ≡ (o && (K s && (eq_ℚ c (s *ℚ d) && are_times s ts us))))
    → (o && (K (factor_of ts us) && is_multiple (factor_of ts us) ts c us d)) ≡ R (first_over ts us)
by_first R K o [] us c d n h = none_of o (K (factor_of [] us)) ∙ sym n
by_first R K o (t ∷ ts) [] c d n h =
    let s = factor_of (t ∷ ts) [] in
    ap (λ (b : Bool). o && (K s && (fits s && b))) (and_none (eq_ℚ c (s *ℚ d))) ∙ ap (λ (b : Bool). o && (K s && b)) (and_none (fits s)) ∙ none_of o (K s) ∙ sym n
by_first R K o (t ∷ ts) (u ∷ us) c d n h = by (fits (t.value /ℚ u.value))
  where
    by : (b : Bool) → (o && (K (t.value /ℚ u.value) && (b && (eq_ℚ c (t.value /ℚ u.value *ℚ d) && are_times (t.value /ℚ u.value) (t ∷ ts) (u ∷ us))))) ≡ R (if b then Some (t.value /ℚ u.value) else None)
    by true = sym (h (t.value /ℚ u.value))
    by false = none_of o (K (t.value /ℚ u.value)) ∙ sym n

module _ (p : Sparse) (j k : ℕ) where
  live_or_not : (a b : Bool) → is_parallel j k (if a then holding.Column (column_entries p j) (cost_at p j) else holding.Gone) (if b then holding.Column (column_entries p k) (cost_at p k) else holding.Gone)
      (if a then held (bounds_at p j) else holding.Gone) (if b then held (bounds_at p k) else holding.Gone)
      ≡ ((a && (b && not (nat_eq j k))) && joins_if p j k (factor_if p j k))
  live_or_not true true = ap (λ (b : Bool). not (nat_eq j k) && b)
      (by_first (joins_if p j k) (λ s. are_of_a_kind s (held (bounds_at p j)) (held (bounds_at p k))) (are_in_order (held (bounds_at p j)) (held (bounds_at p k))) (column_entries p j) (column_entries p k) (cost_at p j) (cost_at p k) refl (λ s. refl))
  live_or_not true false = refl
  live_or_not false b = refl

  pub enabled_is : enabled p j k ≡ (are_two p j k && joins_if p j k (factor_if p j k))
  enabled_is = live_or_not (column_at p j).live (column_at p k).live
