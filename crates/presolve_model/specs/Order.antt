-- The order of the rules. A round lists the verdicts first, and then the reductions.
use Rattle.std.specs.Prelude.{List, [], ◌∷◌}
use Rattle.presolve_model.specs.declared.instance.Rule.{Rule}
use Rattle.presolve_model.specs.declared.instance.Rule.TheVariants as rule

abbrev pub verdict_order : List Rule
verdict_order = rule.CrossedBounds ∷ rule.CrossedSides ∷ rule.InfeasibleRow ∷ rule.UnboundedColumn ∷ []

abbrev pub reduction_order : List Rule
reduction_order =
    rule.EmptyRow ∷ rule.SingletonRow ∷ rule.FixedColumn ∷ rule.RoundedBounds
    ∷ rule.RedundantRow ∷ rule.RedundantSide ∷ rule.ForcingRow ∷ rule.BoundTightening
    ∷ rule.CoefficientTightening ∷ rule.DualFixing ∷ rule.DominatedColumn ∷ rule.DoubletonEquation
    ∷ rule.FreeColumnSingleton ∷ rule.SlackColumnSingleton ∷ rule.ParallelRows ∷ rule.ParallelColumns ∷ rule.EmptyColumn ∷ []
