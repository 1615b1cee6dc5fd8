-- What the looks at two rows say.
use Rattle.std.proofs.Common.{◌≡◌, ◌≢◌, ℕ, suc, Bool, true, false, not, ◌&&◌, nat_eq, List, [], ◌∷◌, length, Option, Some, None, is_none, sym, refl, ap, ◌∙◌, true≢false}
use Rattle.std.specs.Prelude.{if◌then◌else◌}
use Rattle.std.specs.List.{All}
use Rattle.std.proofs.lemmas.Bool.{and_parts, eq-eqb}
use Rattle.fractions.specs.Number.{Number, zero_ℚ, ◌*ℚ◌}
use Rattle.fractions.specs.Compare.{eq_ℚ}
use Rattle.fractions.specs.Division.{◌/ℚ◌}
use Rattle.lp_model.specs.declared.terms.Term.{Term}
use Rattle.problem_model.specs.declared.part.Contents.TheVariants as holding
use Rattle.problem_model.specs.Matrices.{live_only}
use Rattle.problem_model.specs.Problems.{IsSparse, row_at, row_entries}
use Rattle.problem_model.specs.Sparse.{Sparse}
use Rattle.problem_laws.proofs.Entries.{row_entries-none_zero}
use Rattle.row_spans.specs.Exact.{fits}
use Rattle.rule_words.proofs.EndTestsSay.{not_true}
use Rattle.rule_words.specs.Multiples.{are_times, factor_of}
use Rattle.parallel_column_rules.specs.Walks.{first_over}
use Rattle.parallel_column_rules.proofs.EntryWalks.{first_made}
use Rattle.parallel_laws.specs.ParallelRows.{enabled, factor, is_multiple, is_parallel}
use Rattle.parallel_laws.proofs.ParallelRows as law
use Rattle.parallel_row_rules.specs.Looks.{are_as_many, are_times_if, are_two, factor_if, is_times}

-- ---- what a condition that holds says
pub first_live : (p : Sparse) (i k : ℕ) → enabled p i k ≡ true → (row_at p i).live ≡ true
first_live p i k e = (law.said p i k e).first_live

pub second_live : (p : Sparse) (i k : ℕ) → enabled p i k ≡ true → (row_at p k).live ≡ true
second_live p i k e = (law.said p i k e).second_live

pub factor_some : (p : Sparse) (i k : ℕ) → IsSparse p → enabled p i k ≡ true → factor p i k ≢ zero_ℚ
factor_some p i k s e = law.factor_some p s i k (law.said p i k e)

pub none_zero : (p : Sparse) (k : ℕ) → IsSparse p → All (λ t. t.value ≢ zero_ℚ) (live_only p.matrix.columns (row_at p k).entries)
none_zero p k s = row_entries-none_zero p k s

-- there is a quotient of the first entries
factor_made : (p : Sparse) (i k : ℕ) → enabled p i k ≡ true → factor_if p i k ≡ Some (factor p i k)
factor_made p i k e = let f = law.said p i k e in first_made (row_entries p i) (row_entries p k) f.some f.room f.entries

pub not_none : (p : Sparse) (i k : ℕ) (o : Option Number) → enabled p i k ≡ true → o ≡ factor_if p i k → o ≡ None → ⊥
not_none p i k o e f g = true≢false (ap is_none (sym g ∙ f ∙ factor_made p i k e))

-- ---- the tests one by one
and_none : (a : Bool) → (a && false) ≡ false
and_none true = refl
and_none false = refl

-- multiples have as many terms
as_many : (s : Number) (ts us : List Term) → are_times s ts us ≡ true → length ts ≡ length us
as_many s [] [] e = refl
as_many s [] (u ∷ us) e = absurd (not_true e)
as_many s (t ∷ ts) [] e = absurd (not_true e)
as_many s (t ∷ ts) (u ∷ us) e =
    let a = and_parts (nat_eq t.id u.id) (eq_ℚ t.value (s *ℚ u.value) && are_times s ts us) e in
    ap suc (as_many s ts us (and_parts (eq_ℚ t.value (s *ℚ u.value)) (are_times s ts us) a.1).1)

many_first : (o : Option Number) (ts us : List Term) → are_times_if o ts us ≡ (nat_eq (length ts) (length us) && are_times_if o ts us)
many_first None ts us = sym (and_none (nat_eq (length ts) (length us)))
many_first (Some s) ts us = by (are_times s ts us) refl
  where
    by : (b : Bool) → are_times s ts us ≡ b → are_times s ts us ≡ (nat_eq (length ts) (length us) && are_times s ts us)
    by true e = sym (ap (λ (b : Bool). b && are_times s ts us) (eq-eqb (length ts) (length us) (as_many s ts us e)))
    by false e = e ∙ sym (and_none (nat_eq (length ts) (length us))) ∙ ap (λ (b : Bool). nat_eq (length ts) (length us) && b) (sym e)

-- a multiple is one by the quotient that is made
by_first : (ts us : List Term) → is_multiple (factor_of ts us) ts us ≡ are_times_if (first_over ts us) ts us
by_first [] us = refl
by_first (t ∷ ts) [] = and_none (fits (factor_of (t ∷ ts) []))
by_first (t ∷ ts) (u ∷ us) = by (fits (t.value /ℚ u.value))
  where
    by : (b : Bool) → (b && are_times (t.value /ℚ u.value) (t ∷ ts) (u ∷ us)) ≡ are_times_if (if b then Some (t.value /ℚ u.value) else None) (t ∷ ts) (u ∷ us)
    by true = refl
    by false = refl

module _ (p : Sparse) (i k : ℕ) where
  abbrev ts : List Term
  ts = row_entries p i

  abbrev us : List Term
  us = row_entries p k

  live_or_not : (a b : Bool) → is_parallel i k (if a then holding.Entries ts else holding.Gone) (if b then holding.Entries us else holding.Gone)
      ≡ ((a && (b && not (nat_eq i k))) && (are_as_many p i k && is_times p i k))
  live_or_not true true = ap (λ (b : Bool). not (nat_eq i k) && b) (by_first ts us ∙ many_first (first_over ts us) ts us)
  live_or_not true false = refl
  live_or_not false b = refl

  pub enabled_is : enabled p i k ≡ (are_two p i k && (are_as_many p i k && is_times p i k))
  enabled_is = live_or_not (row_at p i).live (row_at p k).live
