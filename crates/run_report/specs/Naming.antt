-- What instances name, and how they are written.
use Rattle.std.specs.Prelude.{ℕ, List, [], ◌∷◌, ◌++◌, Option, Some, None, slice_get, codes}
use Rattle.lp_model.specs.declared.program.ColumnDef.{ColumnDef}
use Rattle.lp_model.specs.declared.program.RowDef.{RowDef}
use Rattle.lp_model.specs.ProgramData.{ProgramData}
use Rattle.undo_records.specs.declared.side.Side.TheVariants.{Lower, Upper}
use Rattle.presolve_model.specs.declared.instance.Instance.{Instance}
use Rattle.presolve_model.specs.declared.instance.Instance.TheVariants as at
use Rattle.presolve_model.specs.declared.instance.Reduction.{Reduction}
use Rattle.presolve_model.specs.declared.instance.Reduction.TheVariants.{EmptyRow, SingletonRow, FixedColumn, RoundedBounds, RedundantRow, RedundantSide, ForcingRow, BoundTightening, CoefficientTightening, DualFixing, DominatedColumn, DoubletonEquation, FreeColumnSingleton, SlackColumnSingleton, ParallelRows, ParallelColumns, EmptyColumn}
use Rattle.presolve_model.specs.declared.instance.Verdict.{Verdict}
use Rattle.presolve_model.specs.declared.instance.Verdict.TheVariants.{CrossedBounds, CrossedSides, InfeasibleRow, UnboundedColumn}
use Rattle.presolve_model.specs.Instances.{rule_at}
use Rattle.run_report.specs.declared.named.Subject.{Subject}
use Rattle.run_report.specs.declared.named.Subject.TheVariants.{Row, Column}
use Rattle.run_report.specs.Rules.{code_of}

-- ---- what is named
abbrev pub one : Subject → List (Option Subject)
one a = Some a ∷ None ∷ None ∷ []

abbrev pub two : Subject → Subject → List (Option Subject)
two a b = Some a ∷ Some b ∷ None ∷ []

abbrev pub three : Subject → Subject → Subject → List (Option Subject)
three a b c = Some a ∷ Some b ∷ Some c ∷ []

-- the rows and columns that a reduction names, in its order
abbrev pub named_by_reduction : Reduction → List (Option Subject)
named_by_reduction (EmptyRow i) = one (Row i)
named_by_reduction (SingletonRow i) = one (Row i)
named_by_reduction (FixedColumn j) = one (Column j)
named_by_reduction (RoundedBounds j) = one (Column j)
named_by_reduction (RedundantRow i) = one (Row i)
named_by_reduction (RedundantSide i) = one (Row i)
named_by_reduction (ForcingRow i) = one (Row i)
named_by_reduction (BoundTightening i j side) = two (Row i) (Column j)
named_by_reduction (CoefficientTightening i j) = two (Row i) (Column j)
named_by_reduction (DualFixing j) = one (Column j)
named_by_reduction (DominatedColumn i j k) = three (Row i) (Column j) (Column k)
named_by_reduction (DoubletonEquation i j k) = three (Row i) (Column j) (Column k)
named_by_reduction (FreeColumnSingleton j i) = two (Column j) (Row i)
named_by_reduction (SlackColumnSingleton j i) = two (Column j) (Row i)
named_by_reduction (ParallelRows i k) = two (Row i) (Row k)
named_by_reduction (ParallelColumns j k) = two (Column j) (Column k)
named_by_reduction (EmptyColumn j) = one (Column j)

abbrev pub named_by_verdict : Verdict → List (Option Subject)
named_by_verdict (CrossedBounds j) = one (Column j)
named_by_verdict (CrossedSides i) = one (Row i)
named_by_verdict (InfeasibleRow i) = one (Row i)
named_by_verdict (UnboundedColumn j) = one (Column j)

abbrev pub named_by : Instance → List (Option Subject)
named_by (at.Reduction r) = named_by_reduction r
named_by (at.Verdict v) = named_by_verdict v

-- ---- how it is written
abbrev pub row_name : Option RowDef → List ℕ
row_name None = []
row_name (Some row) = row.name

abbrev pub column_name : Option ColumnDef → List ℕ
column_name None = []
column_name (Some column) = column.name

-- the name of a row or a column of a program; nothing where there is no such one
abbrev pub name_at : ProgramData → Subject → List ℕ
name_at program (Row i) = row_name (slice_get program.rows i)
name_at program (Column j) = column_name (slice_get program.columns j)

-- a space and the name of each
abbrev pub names_text : ProgramData → List (Option Subject) → List ℕ
names_text program [] = []
names_text program (None ∷ subjects) = names_text program subjects
names_text program (Some subject ∷ subjects) = 32 ∷ (name_at program subject ++ names_text program subjects)

-- the side of the bound that an instance tightens
abbrev pub side_text : Instance → List ℕ
side_text (at.Reduction (BoundTightening i j Lower)) = codes " lower"
side_text (at.Reduction (BoundTightening i j Upper)) = codes " upper"
side_text other = []

-- the code of the rule, the names, and the side
abbrev pub instance_text : ProgramData → Instance → List ℕ
instance_text program e = code_of (rule_at e) ++ (names_text program (named_by e) ++ side_text e)
