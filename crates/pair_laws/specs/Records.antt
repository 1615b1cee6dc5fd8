-- The record of each reduction of a program M, with the program's numbers. A list of terms has the entries of a row or a column.
use Rattle.std.specs.Prelude.{ℕ, List}
use Rattle.fractions.specs.Number.{Number}
use Rattle.fractions.specs.Division.{◌/ℚ◌}
use Rattle.lp_model.specs.declared.terms.Term.{Term}
use Rattle.lp_model.specs.LinearProgram.{LinearProgram}
use Rattle.undo_records.specs.declared.side.Side.{Side}
use Rattle.undo_records.specs.declared.side.Side.TheVariants.{Lower, Upper}
use Rattle.undo_records.specs.declared.side.RowFate.{RowFate}
use Rattle.undo_records.specs.declared.undo.Undo.{Undo}
use Rattle.undo_records.specs.declared.undo.Undo.TheVariants as kind

abbrev pub empty_row : ℕ → Undo
empty_row i = kind.EmptyRow (record { row = i })

abbrev pub singleton_row : LinearProgram → ℕ → ℕ → Undo
singleton_row M i j = kind.SingletonRow (record { row = i; column = j; value = M.coefficient i j; lower = M.lower_bound j; upper = M.upper_bound j })

abbrev pub fixed_column : LinearProgram → ℕ → Number → List Term → Undo
fixed_column M j v ts = kind.FixedColumn (record { column = j; value = v; cost = M.costs j; entries = ts })

abbrev pub rounded_bounds : ℕ → Undo
rounded_bounds j = kind.RoundedBounds (record { column = j })

abbrev pub redundant_row : ℕ → Undo
redundant_row i = kind.RedundantRow (record { row = i })

abbrev pub redundant_side : ℕ → Undo
redundant_side i = kind.RedundantSide (record { row = i })

abbrev pub forcing_row : ℕ → Side → List Term → Undo
forcing_row i side ts = kind.ForcingRow (record { row = i; side = side; entries = ts })

abbrev pub lower_bound_tightening : LinearProgram → ℕ → ℕ → List Term → Undo
lower_bound_tightening M i j ts = kind.BoundTightening (record { row = i; column = j; side = Lower; bound = M.lower_bound j; entries = ts })

abbrev pub upper_bound_tightening : LinearProgram → ℕ → ℕ → List Term → Undo
upper_bound_tightening M i j ts = kind.BoundTightening (record { row = i; column = j; side = Upper; bound = M.upper_bound j; entries = ts })

abbrev pub coefficient_tightening : ℕ → ℕ → Undo
coefficient_tightening i j = kind.CoefficientTightening (record { row = i; column = j })

abbrev pub dual_fixing : ℕ → Undo
dual_fixing j = kind.DualFixing (record { column = j })

-- column j is better than column k
abbrev pub dominated_column : ℕ → ℕ → ℕ → Undo
dominated_column i j k = kind.DominatedColumn (record { row = i; better = j; column = k })

-- row i, equal to q, was solved for column j
abbrev pub doubleton_equation : LinearProgram → ℕ → ℕ → ℕ → Number → List Term → Undo
doubleton_equation M i j k q ts = kind.DoubletonEquation (record {
  row = i;
  column = j;
  kept = k;
  value = M.coefficient i j;
  kept_value = M.coefficient i k;
  equal = q;
  lower = M.lower_bound k;
  upper = M.upper_bound k;
  cost = M.costs j;
  entries = ts;
})

-- row i stands at s
abbrev pub free_column_singleton : LinearProgram → ℕ → ℕ → Number → List Term → Undo
free_column_singleton M j i s ts = kind.FreeColumnSingleton (record { column = j; row = i; value = M.coefficient i j; at = s; price = M.costs j /ℚ M.coefficient i j; entries = ts })

abbrev pub slack_column_singleton : LinearProgram → ℕ → ℕ → RowFate → List Term → Undo
slack_column_singleton M j i fate ts = kind.SlackColumnSingleton (record {
  column = j;
  row = i;
  value = M.coefficient i j;
  price = M.costs j /ℚ M.coefficient i j;
  lower_side = M.lower_side i;
  upper_side = M.upper_side i;
  lower = M.lower_bound j;
  upper = M.upper_bound j;
  fate = fate;
  entries = ts;
})

-- row i is s times row k
abbrev pub parallel_rows : LinearProgram → ℕ → ℕ → Number → List Term → Undo
parallel_rows M i k s ts = kind.ParallelRows (record { row = i; kept = k; factor = s; lower = M.lower_side k; upper = M.upper_side k; entries = ts })

-- column j is s times column k
abbrev pub parallel_columns : LinearProgram → ℕ → ℕ → Number → Undo
parallel_columns M j k s = kind.ParallelColumns (record {
  column = j;
  kept = k;
  factor = s;
  lower = M.lower_bound j;
  upper = M.upper_bound j;
  kept_lower = M.lower_bound k;
  kept_upper = M.upper_bound k;
})

abbrev pub empty_column : ℕ → Undo
empty_column j = kind.EmptyColumn (record { column = j })
