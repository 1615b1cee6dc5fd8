-- The coefficients that a problem shows, by the live entries of its rows and columns.
use Rattle.std.proofs.Common.{◌≡◌, ℕ, Bool, true, false, ◌&&◌, Option, refl, sym, ap, ◌∙◌}
use Rattle.std.specs.Prelude.{if◌then◌else◌}
use Rattle.fractions.specs.Number.{Number, zero_ℚ}
use Rattle.lp_model.specs.Sparse.{dense}
use Rattle.problem_model.specs.Matrices.{IsMatrix}
use Rattle.problem_model.specs.Problems.{row_at, column_at, row_entries, column_entries}
use Rattle.problem_model.specs.Showing.{coefficient_of, end_if}
use Rattle.problem_model.specs.Sparse.{Sparse}
use Rattle.problem_laws.proofs.Entries.{dense-live_only}

pub zero_either : (b : Bool) → (if b then zero_ℚ else zero_ℚ) ≡ zero_ℚ
zero_either true = refl
zero_either false = refl

pub end_live : (on : Bool) (o : Option Number) → on ≡ true → end_if on o ≡ o
end_live on o e = ap (λ (b : Bool). end_if b o) e

pub coefficient_in_row : (p : Sparse) (i j : ℕ) → coefficient_of p i j ≡ (if (row_at p i).live then dense (row_entries p i) j else zero_ℚ)
coefficient_in_row p i j = by (row_at p i).live
  where
    by : (b : Bool) → (if b && (column_at p j).live then dense (row_at p i).entries j else zero_ℚ) ≡ (if b then dense (row_entries p i) j else zero_ℚ)
    by true = sym (dense-live_only p.matrix.columns j (row_at p i).entries)
    by false = refl

pub coefficient_in_column : (p : Sparse) (i j : ℕ) → IsMatrix p.matrix → coefficient_of p i j ≡ (if (column_at p j).live then dense (column_entries p j) i else zero_ℚ)
coefficient_in_column p i j m = by (row_at p i).live (column_at p j).live refl refl (dense-live_only p.matrix.rows i (column_at p j).entries)
  where
    by : (r c : Bool) → (row_at p i).live ≡ r → (column_at p j).live ≡ c → dense (column_entries p j) i ≡ (if r then dense (column_at p j).entries i else zero_ℚ)
        → (if r && c then dense (row_at p i).entries j else zero_ℚ) ≡ (if c then dense (column_entries p j) i else zero_ℚ)
    by true true on off e = m.agree i j on off ∙ sym e
    by true false on off e = refl
    by false true on off e = sym e
    by false false on off e = refl
