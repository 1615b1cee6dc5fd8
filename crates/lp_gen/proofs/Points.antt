-- The point of all ones is feasible, and no feasible point costs less than 0. So a feasible point is there, and the cost is not endless.
use Rattle.std.proofs.Common.{◌≡◌, ℕ, ◌+◌, ◌<◌, ℤ, pos, ◌-ℤ◌, ◌≤ℤ◌, [], ◌∷◌, Some, ◌∙◌, sym, refl, ap, subst, arith}
use Rattle.std.specs.Prelude.{unwrap_or}
use Rattle.std.proofs.lemmas.Int.{ints}
use Rattle.std.proofs.lemmas.List.FromFn.{length-map-range_with_len, get_or-map-range_with_len}
use Rattle.fractions.specs.Ring.{ring, v, num, ◌:+◌, ◌:*◌}
use Rattle.fractions.specs.Number.{Number, rational, of_ℤ, zero_ℚ, one_ℚ, ◌*ℚ◌}
use Rattle.fractions.specs.Order.{◌≤ℚ◌, ≤ℚ_refl, <ℚ-not}
use Rattle.fractions.specs.Total.{total}
use Rattle.fractions.specs.Ends as ends
use Rattle.fractions.specs.Ends.{Between}
use Rattle.fractions.proofs.Floors.{of_ℤ-≤}
use Rattle.fractions.specs.Signs.{*ℚ_pos}
use Rattle.fractions.proofs.Totals.{total_same, total-zero, total-≤}
use Rattle.lp_model.specs.declared.program.Sense.TheVariants.{Min}
use Rattle.lp_model.specs.declared.program.RowDef.{RowDef}
use Rattle.lp_model.specs.declared.program.ColumnDef.{ColumnDef}
use Rattle.lp_model.specs.LinearProgram.{LinearProgram, Feasible, value_at, cost_at}
use Rattle.lp_model.specs.Meaning.{meaning, no_row, no_column, row_at, column_at}
use Rattle.lp_model.specs.Gaps.{Clears, gap_of, reach_lower, reach_upper}
use Rattle.lp_model.specs.Sparse.{dense}
use Rattle.lp_model.specs.Vectors.{Vector}
use Rattle.lp_model.specs.Verdicts.{NoPoint, NoPointOrEndless}
use Rattle.lp_gen.specs.declared.rows.RowKind.{RowKind}
use Rattle.lp_gen.specs.declared.rows.RowKind.TheVariants.{AtMost, AtLeast, Equal}
use Rattle.lp_gen.specs.Draws.{drawn}
use Rattle.lp_gen.specs.Columns.{whole, coefficient_in, entries_seed, column_seed, column_of, coefficient_sum}
use Rattle.lp_gen.specs.Rows.{kind_of, lower_side, upper_side}
use Rattle.lp_gen.specs.Generated.{columns_seed, sides_seed, row_of, generated, ones}
use Rattle.lp_gen.proofs.Coefficients.{dense_terms, whole_total}

-- ---- numbers
-- whole numbers are ordered as numbers
whole_up : (a b : ℤ) → a ≤ℤ b → of_ℤ a ≤ℚ of_ℤ b
whole_up a b h = (of_ℤ-≤ a b).1 h

-- a natural number is not negative
not_negative : (n : ℕ) → zero_ℚ ≤ℚ whole n
not_negative n = whole_up (pos 0) (pos n) (omega (arith, ints))

-- nor is a sum of numbers that are not negative
total_not_negative : (n : ℕ) (f : ℕ → Number) → ((k : ℕ) → k < n → zero_ℚ ≤ℚ f k) → zero_ℚ ≤ℚ total n f
total_not_negative n f each = subst (λ z. z ≤ℚ total n f) (total-zero n (λ k. zero_ℚ) (λ k l. refl)) (total-≤ n (λ k. zero_ℚ) f each)

-- the sum of a row's coefficients lies between its sides
sum_between : (kind : RowKind) (q e : ℕ) → Between (lower_side kind q e) (upper_side kind q e) (whole q)
sum_between AtMost q e = record { low = tt; high = whole_up (pos q) (pos (q + e)) (omega (arith, ints)) }
sum_between AtLeast q e = record { low = whole_up (pos q -ℤ pos e) (pos q) (omega (arith, ints)); high = tt }
sum_between Equal q e = record { low = ≤ℚ_refl (whole q); high = ≤ℚ_refl (whole q) }

module _ (seed rows columns : ℕ) where
  -- ---- what the program means
  -- the linear program
  abbrev program : LinearProgram
  program = meaning (generated seed rows columns)

  -- it has so many rows
  in_rows : (i : ℕ) → i < program.rows → i < rows
  in_rows i l = omega (arith, l, length-map-range_with_len (row_of seed rows columns) 0 rows)

  -- and so many columns
  in_columns : (j : ℕ) → j < program.columns → j < columns
  in_columns j l = omega (arith, l, length-map-range_with_len (column_of (columns_seed seed rows) rows) 0 columns)

  -- each is the one that was made
  row_is : (i : ℕ) → i < rows → row_at (generated seed rows columns) i ≡ row_of seed rows columns i
  row_is i l = let e : 0 + i ≡ i = omega arith in get_or-map-range_with_len (row_of seed rows columns) 0 rows i i no_row l e

  column_is : (j : ℕ) → j < columns → column_at (generated seed rows columns) j ≡ column_of (columns_seed seed rows) rows j
  column_is j l = let e : 0 + j ≡ j = omega arith in get_or-map-range_with_len (column_of (columns_seed seed rows) rows) 0 columns j j no_column l e

  -- ---- the point of all ones
  -- the coefficient in row i of column j, 0 where it has none
  abbrev coefficient : ℕ → ℕ → ℕ
  coefficient i j = unwrap_or (coefficient_in (entries_seed (column_seed (columns_seed seed rows) j)) rows 3 i) 0

  -- the program has it there
  coefficient_is : (i j : ℕ) → i < rows → j < columns → program.coefficient i j ≡ whole (coefficient i j)
  coefficient_is i j l m =
      ap (λ (column : ColumnDef). dense column.entries i) (column_is j m)
      ∙ dense_terms (coefficient_in (entries_seed (column_seed (columns_seed seed rows) j)) rows 3) 0 rows i (omega arith) (omega (arith, l))

  times_one : (p : Number) → p *ℚ one_ℚ ≡ p
  times_one p = ring rational (p ∷ []) (v 0 :* num (pos 1)) (v 0) refl

  -- the value of a row is the sum of its coefficients
  value_is : (i : ℕ) → i < rows → value_at program i ones ≡ whole (coefficient_sum (columns_seed seed rows) rows columns i)
  value_is i l =
      ap (λ (n : ℕ). total n (λ j. program.coefficient i j *ℚ one_ℚ)) (length-map-range_with_len (column_of (columns_seed seed rows) rows) 0 columns)
      ∙ total_same columns (λ j. program.coefficient i j *ℚ one_ℚ) (λ j. whole (coefficient i j))
      (λ j m. times_one (program.coefficient i j) ∙ coefficient_is i j l m)
      ∙ whole_total (coefficient i) columns

  -- so it lies between the sides, and 1 between the bounds
  pub ones_feasible : Feasible program ones
  ones_feasible = record {
    rows = λ i l. row_holds i (in_rows i l);
    columns = λ j l. subst (λ (column : ColumnDef). Between (reach_lower column.semi column.lower column.upper) (reach_upper column.semi column.lower column.upper) one_ℚ) (sym (column_is j (in_columns j l))) within;
    whole = λ j l t. record { whole = pos 1; same = refl };
    gaps = λ j l. subst (λ (column : ColumnDef). Clears (gap_of column.semi column.lower column.upper) one_ℚ) (sym (column_is j (in_columns j l))) tt;
  }
    where
      row_holds : (i : ℕ) → i < rows → Between (program.lower_side i) (program.upper_side i) (value_at program i ones)
      row_holds i l =
          subst (λ (row : RowDef). Between row.lower row.upper (value_at program i ones)) (sym (row_is i l))
          (subst (λ (value : Number). Between (row_of seed rows columns i).lower (row_of seed rows columns i).upper value) (sym (value_is i l))
          (sum_between (kind_of (drawn seed i 3)) (coefficient_sum (columns_seed seed rows) rows columns i) (drawn (sides_seed seed rows columns) i 5)))

      within : Between (Some zero_ℚ) (Some (whole 10)) one_ℚ
      within = record { low = not_negative 1; high = whole_up (pos 1) (pos 10) (omega (arith, ints)) }

  -- ---- costs
  -- each product of a cost and a coordinate is not negative
  pub cost_not_negative : (x : Vector) → Feasible program x → zero_ℚ ≤ℚ cost_at program x
  cost_not_negative x holds =
      subst (λ (cost : Number). zero_ℚ ≤ℚ cost) (ring rational (total program.columns (λ j. program.costs j *ℚ x j) ∷ []) (v 0) (v 0 :+ num (pos 0)) refl)
      (total_not_negative program.columns (λ j. program.costs j *ℚ x j) (λ j l. *ℚ_pos (cost_of j (in_columns j l)) (coordinate j l)))
    where
      cost_of : (j : ℕ) → j < columns → zero_ℚ ≤ℚ program.costs j
      cost_of j l =
          subst (λ (column : ColumnDef). zero_ℚ ≤ℚ column.cost) (sym (column_is j l)) (not_negative (drawn (column_seed (columns_seed seed rows) j) 0 11))

      coordinate : (j : ℕ) → j < program.columns → zero_ℚ ≤ℚ x j
      coordinate j l = subst (λ (column : ColumnDef). ends.AtLeast (reach_lower column.semi column.lower column.upper) (x j)) (column_is j (in_columns j l)) (holds.columns j l).low

  -- ---- no verdict is true
  -- the point of all ones would give one that costs less than 0
  pub not_endless : NoPointOrEndless Min program → ⊥
  not_endless told = let low = told ones ones_feasible zero_ℚ in <ℚ-not low.2 (cost_not_negative low.0 low.1)

  -- there is a point, that of all ones
  pub point_there : NoPoint program → ⊥
  point_there none = none ones ones_feasible
