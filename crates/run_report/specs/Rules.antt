-- The rules: all of them in instance order, and their codes and names.
use Rattle.std.specs.Prelude.{ℕ, Bool, nat_eq, List, ◌++◌, codes}
use Rattle.presolve_model.specs.declared.instance.Rule.{Rule}
use Rattle.presolve_model.specs.declared.instance.Rule.TheVariants as rule
use Rattle.presolve_model.specs.Order.{reduction_order, verdict_order}

-- the verdicts, then the reductions
abbrev pub all_rules : List Rule
all_rules = verdict_order ++ reduction_order

-- the place of a rule in that list
abbrev pub place_of : Rule → ℕ
place_of rule.CrossedBounds = 0
place_of rule.CrossedSides = 1
place_of rule.InfeasibleRow = 2
place_of rule.UnboundedColumn = 3
place_of rule.EmptyRow = 4
place_of rule.SingletonRow = 5
place_of rule.FixedColumn = 6
place_of rule.RoundedBounds = 7
place_of rule.RedundantRow = 8
place_of rule.RedundantSide = 9
place_of rule.ForcingRow = 10
place_of rule.BoundTightening = 11
place_of rule.CoefficientTightening = 12
place_of rule.DualFixing = 13
place_of rule.DominatedColumn = 14
place_of rule.DoubletonEquation = 15
place_of rule.FreeColumnSingleton = 16
place_of rule.SlackColumnSingleton = 17
place_of rule.ParallelRows = 18
place_of rule.ParallelColumns = 19
place_of rule.EmptyColumn = 20

-- two rules are one
abbrev pub is_same : Rule → Rule → Bool
is_same r s = nat_eq (place_of r) (place_of s)

abbrev pub code_of : Rule → List ℕ
code_of rule.CrossedBounds = codes "V1"
code_of rule.CrossedSides = codes "V1"
code_of rule.InfeasibleRow = codes "V2"
code_of rule.UnboundedColumn = codes "V3"
code_of rule.EmptyRow = codes "K1"
code_of rule.SingletonRow = codes "K2"
code_of rule.FixedColumn = codes "K3"
code_of rule.RoundedBounds = codes "K4"
code_of rule.RedundantRow = codes "K5"
code_of rule.RedundantSide = codes "K6"
code_of rule.ForcingRow = codes "K7"
code_of rule.BoundTightening = codes "K8"
code_of rule.CoefficientTightening = codes "K9"
code_of rule.DualFixing = codes "K10"
code_of rule.DominatedColumn = codes "K11"
code_of rule.DoubletonEquation = codes "K12"
code_of rule.FreeColumnSingleton = codes "K13"
code_of rule.SlackColumnSingleton = codes "K14"
code_of rule.ParallelRows = codes "K15"
code_of rule.ParallelColumns = codes "K16"
code_of rule.EmptyColumn = codes "K17"

abbrev pub name_of : Rule → List ℕ
name_of rule.CrossedBounds = codes "crossed bounds"
name_of rule.CrossedSides = codes "crossed sides"
name_of rule.InfeasibleRow = codes "infeasible row"
name_of rule.UnboundedColumn = codes "unbounded column"
name_of rule.EmptyRow = codes "empty row"
name_of rule.SingletonRow = codes "singleton row"
name_of rule.FixedColumn = codes "fixed column"
name_of rule.RoundedBounds = codes "rounded bounds"
name_of rule.RedundantRow = codes "redundant row"
name_of rule.RedundantSide = codes "redundant side"
name_of rule.ForcingRow = codes "forcing row"
name_of rule.BoundTightening = codes "bound tightening"
name_of rule.CoefficientTightening = codes "coefficient tightening"
name_of rule.DualFixing = codes "dual fixing"
name_of rule.DominatedColumn = codes "dominated column"
name_of rule.DoubletonEquation = codes "doubleton equation"
name_of rule.FreeColumnSingleton = codes "free column singleton"
name_of rule.SlackColumnSingleton = codes "slack column singleton"
name_of rule.ParallelRows = codes "parallel rows"
name_of rule.ParallelColumns = codes "parallel columns"
name_of rule.EmptyColumn = codes "empty column"
