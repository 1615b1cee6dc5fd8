-- The tables over the rules: what each reads, where it is enabled, its edits, its record and the numbers that it computes. One line a rule.
use Rattle.std.specs.Prelude.{Bool, List}
use Rattle.undo_records.specs.declared.undo.Undo.{Undo}
use Rattle.problem_model.specs.declared.edit.Edit.{Edit}
use Rattle.problem_model.specs.declared.part.Contents.{Contents}
use Rattle.problem_model.specs.declared.part.Part.{Part}
use Rattle.problem_model.specs.Sparse.{Sparse}
use Rattle.rule_words.specs.Reading.{bounds_named, no_more, sides_named}
use Rattle.singleton_laws.specs.EmptyRow as empty_row
use Rattle.singleton_laws.specs.SingletonRow as singleton_row
use Rattle.singleton_laws.specs.FixedColumn as fixed_column
use Rattle.singleton_laws.specs.RoundedBounds as rounded_bounds
use Rattle.singleton_laws.specs.EmptyColumn as empty_column
use Rattle.singleton_laws.specs.CrossedBounds as crossed_bounds
use Rattle.singleton_laws.specs.CrossedSides as crossed_sides
use Rattle.activity_laws.specs.Rows as rows
use Rattle.activity_laws.specs.RedundantRow as redundant_row
use Rattle.activity_laws.specs.RedundantSide as redundant_side
use Rattle.activity_laws.specs.ForcingRow as forcing_row
use Rattle.activity_laws.specs.BoundTightening as bound_tightening
use Rattle.activity_laws.specs.InfeasibleRow as infeasible_row
use Rattle.coef_laws.specs.CoefficientTightening as coefficient_tightening
use Rattle.dual_laws.specs.DualFixing as dual_fixing
use Rattle.dual_laws.specs.DominatedColumn as dominated_column
use Rattle.dual_laws.specs.UnboundedColumn as unbounded_column
use Rattle.aggregation_laws.specs.DoubletonEquation as doubleton_equation
use Rattle.column_laws.specs.FreeColumnSingleton as free_column_singleton
use Rattle.column_laws.specs.SlackColumnSingleton as slack_column_singleton
use Rattle.parallel_laws.specs.ParallelRows as parallel_rows
use Rattle.parallel_laws.specs.ParallelColumns as parallel_columns
use Rattle.presolve_model.specs.declared.instance.Reduction.{Reduction}
use Rattle.presolve_model.specs.declared.instance.Reduction.TheVariants.{EmptyRow, SingletonRow, FixedColumn, RoundedBounds, RedundantRow, RedundantSide, ForcingRow, BoundTightening, CoefficientTightening, DualFixing, DominatedColumn, DoubletonEquation, FreeColumnSingleton, SlackColumnSingleton, ParallelRows, ParallelColumns, EmptyColumn}
use Rattle.presolve_model.specs.declared.instance.Verdict.{Verdict}
use Rattle.presolve_model.specs.declared.instance.Verdict.TheVariants.{CrossedBounds, CrossedSides, InfeasibleRow, UnboundedColumn}
use Rattle.presolve_model.specs.declared.instance.Instance.{Instance}
use Rattle.presolve_model.specs.declared.instance.Instance.TheVariants as at

-- what a reduction reads first
abbrev pub heads_of : Reduction → List Part
heads_of (EmptyRow i) = empty_row.heads i
heads_of (SingletonRow i) = singleton_row.heads i
heads_of (FixedColumn j) = fixed_column.heads j
heads_of (RoundedBounds j) = rounded_bounds.heads j
heads_of (RedundantRow i) = rows.heads i
heads_of (RedundantSide i) = rows.heads i
heads_of (ForcingRow i) = rows.heads i
heads_of (BoundTightening i j side) = rows.heads i
heads_of (CoefficientTightening i j) = rows.heads i
heads_of (DualFixing j) = dual_fixing.heads j
heads_of (DominatedColumn i j k) = dominated_column.heads i j k
heads_of (DoubletonEquation i j k) = doubleton_equation.heads i j k
heads_of (FreeColumnSingleton j i) = free_column_singleton.heads j i
heads_of (SlackColumnSingleton j i) = slack_column_singleton.heads j i
heads_of (ParallelRows i k) = parallel_rows.heads i k
heads_of (ParallelColumns j k) = parallel_columns.heads j k
heads_of (EmptyColumn j) = empty_column.heads j

-- what it reads by what the heads hold
abbrev pub more_of : Reduction → List Contents → List Part
more_of (EmptyRow i) cs = no_more cs
more_of (SingletonRow i) cs = bounds_named cs
more_of (FixedColumn j) cs = no_more cs
more_of (RoundedBounds j) cs = no_more cs
more_of (RedundantRow i) cs = bounds_named cs
more_of (RedundantSide i) cs = bounds_named cs
more_of (ForcingRow i) cs = bounds_named cs
more_of (BoundTightening i j side) cs = bounds_named cs
more_of (CoefficientTightening i j) cs = bounds_named cs
more_of (DualFixing j) cs = sides_named cs
more_of (DominatedColumn i j k) cs = dominated_column.more cs
more_of (DoubletonEquation i j k) cs = no_more cs
more_of (FreeColumnSingleton j i) cs = bounds_named cs
more_of (SlackColumnSingleton j i) cs = no_more cs
more_of (ParallelRows i k) cs = no_more cs
more_of (ParallelColumns j k) cs = no_more cs
more_of (EmptyColumn j) cs = no_more cs

-- its condition on what it read
abbrev pub holds_of : Reduction → List Contents → Bool
holds_of (EmptyRow i) cs = empty_row.holds cs
holds_of (SingletonRow i) cs = singleton_row.holds cs
holds_of (FixedColumn j) cs = fixed_column.holds cs
holds_of (RoundedBounds j) cs = rounded_bounds.holds cs
holds_of (RedundantRow i) cs = redundant_row.holds cs
holds_of (RedundantSide i) cs = redundant_side.holds cs
holds_of (ForcingRow i) cs = forcing_row.holds cs
holds_of (BoundTightening i j side) cs = bound_tightening.holds j side cs
holds_of (CoefficientTightening i j) cs = coefficient_tightening.holds j cs
holds_of (DualFixing j) cs = dual_fixing.holds cs
holds_of (DominatedColumn i j k) cs = dominated_column.holds j k cs
holds_of (DoubletonEquation i j k) cs = doubleton_equation.holds j k cs
holds_of (FreeColumnSingleton j i) cs = free_column_singleton.holds j i cs
holds_of (SlackColumnSingleton j i) cs = slack_column_singleton.holds i cs
holds_of (ParallelRows i k) cs = parallel_rows.holds i k cs
holds_of (ParallelColumns j k) cs = parallel_columns.holds j k cs
holds_of (EmptyColumn j) cs = empty_column.holds cs

-- its edits
unfoldable pub edits : Reduction → Sparse → List Edit
edits (EmptyRow i) p = empty_row.edits p i
edits (SingletonRow i) p = singleton_row.edits p i
edits (FixedColumn j) p = fixed_column.edits p j
edits (RoundedBounds j) p = rounded_bounds.edits p j
edits (RedundantRow i) p = redundant_row.edits p i
edits (RedundantSide i) p = redundant_side.edits p i
edits (ForcingRow i) p = forcing_row.edits p i
edits (BoundTightening i j side) p = bound_tightening.edits p i j side
edits (CoefficientTightening i j) p = coefficient_tightening.edits p i j
edits (DualFixing j) p = dual_fixing.edits p j
edits (DominatedColumn i j k) p = dominated_column.edits p k
edits (DoubletonEquation i j k) p = doubleton_equation.edits p i j k
edits (FreeColumnSingleton j i) p = free_column_singleton.edits p j i
edits (SlackColumnSingleton j i) p = slack_column_singleton.edits p j i
edits (ParallelRows i k) p = parallel_rows.edits p i k
edits (ParallelColumns j k) p = parallel_columns.edits p j k
edits (EmptyColumn j) p = empty_column.edits p j

-- its record, of the problem before it
unfoldable pub record_of : Reduction → Sparse → Undo
record_of (EmptyRow i) p = empty_row.record_of p i
record_of (SingletonRow i) p = singleton_row.record_of p i
record_of (FixedColumn j) p = fixed_column.record_of p j
record_of (RoundedBounds j) p = rounded_bounds.record_of p j
record_of (RedundantRow i) p = redundant_row.record_of p i
record_of (RedundantSide i) p = redundant_side.record_of p i
record_of (ForcingRow i) p = forcing_row.record_of p i
record_of (BoundTightening i j side) p = bound_tightening.record_of p i j side
record_of (CoefficientTightening i j) p = coefficient_tightening.record_of p i j
record_of (DualFixing j) p = dual_fixing.record_of p j
record_of (DominatedColumn i j k) p = dominated_column.record_of i j k
record_of (DoubletonEquation i j k) p = doubleton_equation.record_of p i j k
record_of (FreeColumnSingleton j i) p = free_column_singleton.record_of p j i
record_of (SlackColumnSingleton j i) p = slack_column_singleton.record_of p j i
record_of (ParallelRows i k) p = parallel_rows.record_of p i k
record_of (ParallelColumns j k) p = parallel_columns.record_of p j k
record_of (EmptyColumn j) p = empty_column.record_of p j

-- the numbers that it computes have room
unfoldable pub Computes : Reduction → Sparse → Type 0
Computes (EmptyRow i) p = empty_row.Computes p i
Computes (SingletonRow i) p = singleton_row.Computes p i
Computes (FixedColumn j) p = fixed_column.Computes p j
Computes (RoundedBounds j) p = rounded_bounds.Computes p j
Computes (RedundantRow i) p = redundant_row.Computes p i
Computes (RedundantSide i) p = redundant_side.Computes p i
Computes (ForcingRow i) p = forcing_row.Computes p i
Computes (BoundTightening i j side) p = bound_tightening.Computes p i j side
Computes (CoefficientTightening i j) p = coefficient_tightening.Computes p i j
Computes (DualFixing j) p = dual_fixing.Computes p j
Computes (DominatedColumn i j k) p = dominated_column.Computes p k
Computes (DoubletonEquation i j k) p = doubleton_equation.Computes p i j k
Computes (FreeColumnSingleton j i) p = free_column_singleton.Computes p j i
Computes (SlackColumnSingleton j i) p = slack_column_singleton.Computes p j i
Computes (ParallelRows i k) p = parallel_rows.Computes p i k
Computes (ParallelColumns j k) p = parallel_columns.Computes p j k
Computes (EmptyColumn j) p = empty_column.Computes p j

-- ---- verdicts
-- what a verdict reads first
abbrev pub looked_at_by : Verdict → List Part
looked_at_by (CrossedBounds j) = crossed_bounds.heads j
looked_at_by (CrossedSides i) = crossed_sides.heads i
looked_at_by (InfeasibleRow i) = rows.heads i
looked_at_by (UnboundedColumn j) = unbounded_column.heads j

-- what it reads by what the heads hold
abbrev pub more_by : Verdict → List Contents → List Part
more_by (CrossedBounds j) cs = no_more cs
more_by (CrossedSides i) cs = no_more cs
more_by (InfeasibleRow i) cs = bounds_named cs
more_by (UnboundedColumn j) cs = sides_named cs

-- its condition on what it read
abbrev pub holds_by : Verdict → List Contents → Bool
holds_by (CrossedBounds j) cs = crossed_bounds.holds cs
holds_by (CrossedSides i) cs = crossed_sides.holds cs
holds_by (InfeasibleRow i) cs = infeasible_row.holds cs
holds_by (UnboundedColumn j) cs = unbounded_column.holds cs

-- ---- instances
abbrev pub heads : Instance → List Part
heads (at.Reduction r) = heads_of r
heads (at.Verdict v) = looked_at_by v

abbrev pub more : Instance → List Contents → List Part
more (at.Reduction r) cs = more_of r cs
more (at.Verdict v) cs = more_by v cs

abbrev pub holds : Instance → List Contents → Bool
holds (at.Reduction r) cs = holds_of r cs
holds (at.Verdict v) cs = holds_by v cs
