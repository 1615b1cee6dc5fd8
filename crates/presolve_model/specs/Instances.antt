-- The instances of a rule with a first id that are open, and which rule and which first id an instance has.
use Rattle.std.specs.Prelude.{◌≡◌, ℕ, Bool, true, false, List, [], ◌∷◌, length, map, if◌then◌else◌}
use Rattle.std.specs.List.{filter, range_with_len}
use Rattle.lp_model.specs.declared.terms.Term.{Term}
use Rattle.problem_model.specs.Problems.{column_entries, row_entries}
use Rattle.problem_model.specs.Sparse.{Sparse}
use Rattle.activity_laws.specs.BoundTightening.{bounds_of}
use Rattle.dual_laws.specs.DominatedColumn.{pairs_of}
use Rattle.dual_laws.specs.declared.form.Form.{Form}
use Rattle.dual_laws.specs.Forms.{LetsByCost, LetsInPairs}
use Rattle.presolve_model.specs.declared.instance.Reduction.{Reduction}
use Rattle.presolve_model.specs.declared.instance.Reduction.TheVariants.{EmptyRow, SingletonRow, FixedColumn, RoundedBounds, RedundantRow, RedundantSide, ForcingRow, BoundTightening, CoefficientTightening, DualFixing, DominatedColumn, DoubletonEquation, FreeColumnSingleton, SlackColumnSingleton, ParallelRows, ParallelColumns, EmptyColumn}
use Rattle.presolve_model.specs.declared.instance.Verdict.{Verdict}
use Rattle.presolve_model.specs.declared.instance.Verdict.TheVariants.{CrossedBounds, CrossedSides, InfeasibleRow, UnboundedColumn}
use Rattle.presolve_model.specs.declared.instance.Reach.{Reach}
use Rattle.presolve_model.specs.declared.instance.Reach.TheVariants.{OwnRow, OwnColumn, RowsOfBounds, ColumnsOfSides, RowsOfBoth, SoleColumns, RowsBeside, ColumnsBeside}
use Rattle.presolve_model.specs.declared.instance.Rule.{Rule}
use Rattle.presolve_model.specs.declared.instance.Rule.TheVariants as rule
use Rattle.presolve_model.specs.declared.instance.Instance.{Instance}
use Rattle.presolve_model.specs.declared.instance.Instance.TheVariants as at
use Rattle.presolve_model.specs.Tallies.{Counts, counted, Open}

-- the two columns that terms name, in either order, where they are two
abbrev pub both_orders : List Term → List (ℕ × ℕ)
both_orders (t ∷ u ∷ []) = (t.id, u.id) ∷ (u.id, t.id) ∷ []
both_orders other = []

-- the row that a term names, where it is the only one
abbrev pub sole_row : List Term → List ℕ
sole_row (t ∷ []) = t.id ∷ []
sole_row other = []

-- the instances of a rule with this first id that are open, in order
abbrev pub instances_from : Open → Sparse → Rule → ℕ → List Instance
instances_from opens p rule.CrossedBounds j = at.Verdict (CrossedBounds j) ∷ []
instances_from opens p rule.CrossedSides i = at.Verdict (CrossedSides i) ∷ []
instances_from opens p rule.InfeasibleRow i = at.Verdict (InfeasibleRow i) ∷ []
instances_from opens p rule.UnboundedColumn j = at.Verdict (UnboundedColumn j) ∷ []
instances_from opens p rule.EmptyRow i = at.Reduction (EmptyRow i) ∷ []
instances_from opens p rule.SingletonRow i = at.Reduction (SingletonRow i) ∷ []
instances_from opens p rule.FixedColumn j = at.Reduction (FixedColumn j) ∷ []
instances_from opens p rule.RoundedBounds j = at.Reduction (RoundedBounds j) ∷ []
instances_from opens p rule.RedundantRow i = at.Reduction (RedundantRow i) ∷ []
instances_from opens p rule.RedundantSide i = at.Reduction (RedundantSide i) ∷ []
instances_from opens p rule.ForcingRow i = at.Reduction (ForcingRow i) ∷ []
instances_from opens p rule.BoundTightening i = map (λ x. at.Reduction (BoundTightening i x.0 x.1)) (filter (λ x. opens x.0 x.1) (bounds_of (row_entries p i)))
instances_from opens p rule.CoefficientTightening i = map (λ j. at.Reduction (CoefficientTightening i j)) (map (λ t. t.id) (row_entries p i))
instances_from opens p rule.DualFixing j = at.Reduction (DualFixing j) ∷ []
instances_from opens p rule.DominatedColumn i = map (λ x. at.Reduction (DominatedColumn i x.0 x.1)) (pairs_of (row_entries p i))
instances_from opens p rule.DoubletonEquation i = map (λ x. at.Reduction (DoubletonEquation i x.0 x.1)) (both_orders (row_entries p i))
instances_from opens p rule.FreeColumnSingleton j = map (λ i. at.Reduction (FreeColumnSingleton j i)) (sole_row (column_entries p j))
instances_from opens p rule.SlackColumnSingleton j = map (λ i. at.Reduction (SlackColumnSingleton j i)) (sole_row (column_entries p j))
instances_from opens p rule.ParallelRows i = map (λ k. at.Reduction (ParallelRows i k)) (range_with_len 0 (length p.matrix.rows))
instances_from opens p rule.ParallelColumns j = map (λ k. at.Reduction (ParallelColumns j k)) (range_with_len 0 (length p.matrix.columns))
instances_from opens p rule.EmptyColumn j = at.Reduction (EmptyColumn j) ∷ []

-- where the first id of an enabled instance is, seen from a part that it reads
abbrev pub reach_of : Rule → Reach
reach_of rule.CrossedBounds = OwnColumn
reach_of rule.CrossedSides = OwnRow
reach_of rule.InfeasibleRow = RowsOfBounds
reach_of rule.UnboundedColumn = ColumnsOfSides
reach_of rule.EmptyRow = OwnRow
reach_of rule.SingletonRow = RowsOfBounds
reach_of rule.FixedColumn = OwnColumn
reach_of rule.RoundedBounds = OwnColumn
reach_of rule.RedundantRow = RowsOfBounds
reach_of rule.RedundantSide = RowsOfBounds
reach_of rule.ForcingRow = RowsOfBounds
reach_of rule.BoundTightening = RowsOfBounds
reach_of rule.CoefficientTightening = RowsOfBounds
reach_of rule.DualFixing = ColumnsOfSides
reach_of rule.DominatedColumn = RowsOfBoth
reach_of rule.DoubletonEquation = RowsOfBounds
reach_of rule.FreeColumnSingleton = SoleColumns
reach_of rule.SlackColumnSingleton = SoleColumns
reach_of rule.ParallelRows = RowsBeside
reach_of rule.ParallelColumns = ColumnsBeside
reach_of rule.EmptyColumn = OwnColumn

-- whether it is a row; else it is a column
abbrev pub is_at_rows : Reach → Bool
is_at_rows OwnRow = true
is_at_rows OwnColumn = false
is_at_rows RowsOfBounds = true
is_at_rows ColumnsOfSides = false
is_at_rows RowsOfBoth = true
is_at_rows SoleColumns = false
is_at_rows RowsBeside = true
is_at_rows ColumnsBeside = false

-- whether the first ids of a rule are those of rows; else they are those of columns
abbrev pub is_of_rows : Rule → Bool
is_of_rows r = is_at_rows (reach_of r)

-- whether only the form of ends is looked at
abbrev pub goes_by_form : Reach → Bool
goes_by_form OwnRow = false
goes_by_form OwnColumn = false
goes_by_form RowsOfBounds = false
goes_by_form ColumnsOfSides = true
goes_by_form RowsOfBoth = true
goes_by_form SoleColumns = false
goes_by_form RowsBeside = false
goes_by_form ColumnsBeside = false

-- what of a form lets a rule apply that another one doesn't, for those that look only at forms
abbrev pub lets_by : Reach → Form → Form → Type 0
lets_by OwnRow f g = f ≡ g
lets_by OwnColumn f g = f ≡ g
lets_by RowsOfBounds f g = f ≡ g
lets_by ColumnsOfSides f g = LetsByCost f g
lets_by RowsOfBoth f g = LetsInPairs f g
lets_by SoleColumns f g = f ≡ g
lets_by RowsBeside f g = f ≡ g
lets_by ColumnsBeside f g = f ≡ g

-- whether a refusal of a rule's instances, for a number that is past or can't be written, rests on what they read alone
abbrev pub rests_on_reading : Rule → Bool
rests_on_reading rule.CrossedBounds = false
rests_on_reading rule.CrossedSides = false
rests_on_reading rule.InfeasibleRow = false
rests_on_reading rule.UnboundedColumn = false
rests_on_reading rule.EmptyRow = false
rests_on_reading rule.SingletonRow = false
rests_on_reading rule.FixedColumn = false
rests_on_reading rule.RoundedBounds = true
rests_on_reading rule.RedundantRow = false
rests_on_reading rule.RedundantSide = false
rests_on_reading rule.ForcingRow = false
rests_on_reading rule.BoundTightening = true
rests_on_reading rule.CoefficientTightening = true
rests_on_reading rule.DualFixing = false
rests_on_reading rule.DominatedColumn = false
rests_on_reading rule.DoubletonEquation = false
rests_on_reading rule.FreeColumnSingleton = false
rests_on_reading rule.SlackColumnSingleton = false
rests_on_reading rule.ParallelRows = false
rests_on_reading rule.ParallelColumns = false
rests_on_reading rule.EmptyColumn = false

-- whether all instances of a rule with a first id read the same parts, so that the first one that is applied leaves the others stale
abbrev pub shares_reading : Rule → Bool
shares_reading rule.BoundTightening = true
shares_reading rule.CoefficientTightening = true
shares_reading other = false

-- whether its instances are lines that are multiples of one another
abbrev pub goes_by_groups : Rule → Bool
goes_by_groups rule.ParallelRows = true
goes_by_groups rule.ParallelColumns = true
goes_by_groups other = false

-- such an instance at two lines
abbrev pub beside_at : Rule → ℕ → ℕ → Instance
beside_at rule.ParallelRows i k = at.Reduction (ParallelRows i k)
beside_at other j k = at.Reduction (ParallelColumns j k)

-- how many there are
abbrev pub id_count : Sparse → Rule → ℕ
id_count p r = if is_of_rows r then length p.matrix.rows else length p.matrix.columns

abbrev pub rule_of : Reduction → Rule
rule_of (EmptyRow i) = rule.EmptyRow
rule_of (SingletonRow i) = rule.SingletonRow
rule_of (FixedColumn j) = rule.FixedColumn
rule_of (RoundedBounds j) = rule.RoundedBounds
rule_of (RedundantRow i) = rule.RedundantRow
rule_of (RedundantSide i) = rule.RedundantSide
rule_of (ForcingRow i) = rule.ForcingRow
rule_of (BoundTightening i j side) = rule.BoundTightening
rule_of (CoefficientTightening i j) = rule.CoefficientTightening
rule_of (DualFixing j) = rule.DualFixing
rule_of (DominatedColumn i j k) = rule.DominatedColumn
rule_of (DoubletonEquation i j k) = rule.DoubletonEquation
rule_of (FreeColumnSingleton j i) = rule.FreeColumnSingleton
rule_of (SlackColumnSingleton j i) = rule.SlackColumnSingleton
rule_of (ParallelRows i k) = rule.ParallelRows
rule_of (ParallelColumns j k) = rule.ParallelColumns
rule_of (EmptyColumn j) = rule.EmptyColumn

abbrev pub first_id : Reduction → ℕ
first_id (EmptyRow i) = i
first_id (SingletonRow i) = i
first_id (FixedColumn j) = j
first_id (RoundedBounds j) = j
first_id (RedundantRow i) = i
first_id (RedundantSide i) = i
first_id (ForcingRow i) = i
first_id (BoundTightening i j side) = i
first_id (CoefficientTightening i j) = i
first_id (DualFixing j) = j
first_id (DominatedColumn i j k) = i
first_id (DoubletonEquation i j k) = i
first_id (FreeColumnSingleton j i) = j
first_id (SlackColumnSingleton j i) = j
first_id (ParallelRows i k) = i
first_id (ParallelColumns j k) = j
first_id (EmptyColumn j) = j

abbrev pub verdict_rule : Verdict → Rule
verdict_rule (CrossedBounds j) = rule.CrossedBounds
verdict_rule (CrossedSides i) = rule.CrossedSides
verdict_rule (InfeasibleRow i) = rule.InfeasibleRow
verdict_rule (UnboundedColumn j) = rule.UnboundedColumn

abbrev pub verdict_id : Verdict → ℕ
verdict_id (CrossedBounds j) = j
verdict_id (CrossedSides i) = i
verdict_id (InfeasibleRow i) = i
verdict_id (UnboundedColumn j) = j

abbrev pub rule_at : Instance → Rule
rule_at (at.Reduction r) = rule_of r
rule_at (at.Verdict v) = verdict_rule v

abbrev pub id_at : Instance → ℕ
id_at (at.Reduction r) = first_id r
id_at (at.Verdict v) = verdict_id v

-- ---- counts
-- one that tightens a bound is open where that bound may be tightened; every other one is
abbrev pub is_open : Open → Instance → Bool
is_open opens (at.Reduction (BoundTightening i j side)) = opens j side
is_open opens other = true

-- the counts after a reduction
abbrev pub tallied : Reduction → Counts → Counts
tallied (BoundTightening i j side) c = counted c j side
tallied other c = c
