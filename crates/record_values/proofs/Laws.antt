-- A record is made of its values, each kind by computing.
use Rattle.std.proofs.Common.{◌≡◌, refl}
use Rattle.undo_records.specs.declared.undo.Undo.{Undo}
use Rattle.undo_records.specs.declared.undo.Undo.TheVariants.{EmptyRow, SingletonRow, FixedColumn, RoundedBounds, RedundantRow, RedundantSide, ForcingRow, BoundTightening, CoefficientTightening, DualFixing, DominatedColumn, DoubletonEquation, FreeColumnSingleton, SlackColumnSingleton, ParallelRows, ParallelColumns, EmptyColumn}
use Rattle.record_values.specs.Values.{made, rule_undone, values}

pub made_again : (u : Undo) → made (rule_undone u) (values u) ≡ u
made_again (EmptyRow r) = refl
made_again (SingletonRow r) = refl
made_again (FixedColumn r) = refl
made_again (RoundedBounds r) = refl
made_again (RedundantRow r) = refl
made_again (RedundantSide r) = refl
made_again (ForcingRow r) = refl
made_again (BoundTightening r) = refl
made_again (CoefficientTightening r) = refl
made_again (DualFixing r) = refl
made_again (DominatedColumn r) = refl
made_again (DoubletonEquation r) = refl
made_again (FreeColumnSingleton r) = refl
made_again (SlackColumnSingleton r) = refl
made_again (ParallelRows r) = refl
made_again (ParallelColumns r) = refl
made_again (EmptyColumn r) = refl
