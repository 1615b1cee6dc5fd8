-- Columns by draws from a seed: seven draws for each, its cost, then three times the row and the coefficient of an entry.
use Rattle.std.specs.Prelude.{ℕ, zero, suc, ◌+◌, ◌*◌, List, ◌++◌, codes, pos, false, Option, Some, None, unwrap_or, map, ◌==◌, if◌then◌else◌}
use Rattle.std.specs.Option.{option_or, option_map}
use Rattle.std.specs.List.{filter_map, range_with_len, sum}
use Rattle.std.specs.Fmt.{decimal}
use Rattle.fractions.specs.Number.{Number, of_ℤ, zero_ℚ}
use Rattle.lp_model.specs.declared.terms.Term.{Term}
use Rattle.lp_model.specs.declared.program.ColumnDef.{ColumnDef}
use Rattle.lp_gen.specs.Draws.{state_after, drawn}

-- a whole number
abbrev pub whole : ℕ → Number
whole n = of_ℤ (pos n)

-- ---- a column whose three entries are drawn from a seed
-- the row of entry k, counted from 0
abbrev pub entry_row : ℕ → ℕ → ℕ → ℕ
entry_row seed rows k = drawn seed (2 * k) rows

-- its coefficient, from 1 to 9
abbrev pub entry_coefficient : ℕ → ℕ → ℕ
entry_coefficient seed k = drawn seed (2 * k + 1) 9 + 1

-- the column's coefficient in row i: that of the first of so many entries which is in this row
unfoldable pub coefficient_in : ℕ → ℕ → ℕ → ℕ → Option ℕ
coefficient_in seed rows zero i = None
coefficient_in seed rows (suc k) i = option_or (coefficient_in seed rows k i) (if entry_row seed rows k == i then Some (entry_coefficient seed k) else None)

-- the term of a coefficient in row i
abbrev pub term : ℕ → ℕ → Term
term i coefficient = record { id = i; value = whole coefficient }

-- the column's terms by ascending row, of so many entries
abbrev pub terms_of : ℕ → ℕ → ℕ → List Term
terms_of seed rows count = filter_map (λ i. option_map (term i) (coefficient_in seed rows count i)) (range_with_len 0 rows)

-- ---- columns
-- the seed of a column's entries, behind its cost
abbrev pub entries_seed : ℕ → ℕ
entries_seed seed = state_after seed 1

-- the column with number j that is drawn from a seed
abbrev pub column_from : ℕ → ℕ → ℕ → ColumnDef
column_from seed rows j = record {
  name = codes "C" ++ decimal j;
  cost = whole (drawn seed 0 11);
  lower = Some zero_ℚ;
  upper = Some (whole 10);
  whole = false;
  semi = false;
  entries = terms_of (entries_seed seed) rows 3;
}

-- where columns are drawn from a seed one by one, the seed of column j
abbrev pub column_seed : ℕ → ℕ → ℕ
column_seed seed j = state_after seed (7 * j)

-- column j
abbrev pub column_of : ℕ → ℕ → ℕ → ColumnDef
column_of seed rows j = column_from (column_seed seed j) rows j

-- the sum of the coefficients of row i in so many columns
abbrev pub coefficient_sum : ℕ → ℕ → ℕ → ℕ → ℕ
coefficient_sum seed rows columns i = sum (map (λ j. unwrap_or (coefficient_in (entries_seed (column_seed seed j)) rows 3 i) 0) (range_with_len 0 columns))
