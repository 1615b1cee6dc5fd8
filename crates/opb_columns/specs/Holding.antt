-- What is held of columns.
use Rattle.std.specs.Prelude.{◌≡◌, ◌<◌, ℕ, ℤ, pos, true, List, [], length}
use Rattle.fractions.specs.Number.{of_ℤ}
use Rattle.lp_model.specs.declared.terms.Term.{Term}
use Rattle.mps_profile.specs.Texts.{Text, field}
use Rattle.mps_profile.specs.Columns.{joined}
use Rattle.mps_assembly.specs.Columnwise.{cost_at, terms_at}
use Rattle.opb_text.specs.Statements as statements
use Rattle.opb_text.specs.Statements.{sum_at, terms_fit}
use Rattle.opb_columns.specs.Sums.{Covered, sum_in}
use Rattle.opb_columns.specs.declared.sums.Sums.{Sums}
use Rattle.opb_columns.specs.declared.columns.Columns.{Columns}

-- these are the sums of open terms, for the columns of these names
pub record AreSums (names : List Text) (summed : List statements.Term) (sums : Sums) : Type 0 where
  pub count : length sums.values.items ≡ length names
  pub fits : sums.fits ≡ terms_fit summed
  pub values : sums.fits ≡ true → (j : ℕ) → j < length names → sum_in sums.values.items j ≡ sum_at (field names j) summed
  pub covered : Covered sums.values.items sums.touched.items

-- the columns have these names, and by name these costs and terms; and these terms of the open statement are summed
pub record Hold (names : List Text) (cost : Text → ℤ) (entries : Text → List Term) (summed : List statements.Term) (columns : Columns) : Type 0 where
  pub named : columns.names ≡ names
  pub costs_count : length columns.costs.items ≡ length names
  pub costs : (j : ℕ) → j < length names → cost_at columns.costs.items j ≡ of_ℤ (cost (field names j))
  pub terms_count : length columns.terms.items ≡ length names
  pub terms : (j : ℕ) → j < length names → terms_at columns.terms.items j ≡ entries (field names j)
  pub sums : AreSums names summed columns.sums

-- nothing has been said of a name so far
pub record IsUnsaid (name : Text) (cost : Text → ℤ) (entries : Text → List Term) (summed : List statements.Term) : Type 0 where
  pub no_cost : cost name ≡ pos 0
  pub no_entries : entries name ≡ []
  pub no_sum : sum_at name summed ≡ pos 0

-- the column has this name, and the columns are held with it
pub record IsNumbered (names : List Text) (cost : Text → ℤ) (entries : Text → List Term) (summed : List statements.Term) (name : Text) (column : ℕ) (columns : Columns) : Type 0 where
  pub within : column < length (joined name names)
  pub at : field (joined name names) column ≡ name
  pub held : Hold (joined name names) cost entries summed columns
