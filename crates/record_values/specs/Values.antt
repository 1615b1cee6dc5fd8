-- A record as values, in the order of its text, and the record that values make.
use Rattle.std.specs.Prelude.{List, [], ◌∷◌}
use Rattle.undo_records.specs.declared.undo.Undo.{Undo}
use Rattle.undo_records.specs.declared.undo.Undo.TheVariants.{EmptyRow, SingletonRow, FixedColumn, RoundedBounds, RedundantRow, RedundantSide, ForcingRow, BoundTightening, CoefficientTightening, DualFixing, DominatedColumn, DoubletonEquation, FreeColumnSingleton, SlackColumnSingleton, ParallelRows, ParallelColumns, EmptyColumn}
use Rattle.record_values.specs.declared.value.Value.{Value}
use Rattle.record_values.specs.declared.value.Value.TheVariants.{Id, Ratio, LowerEnd, UpperEnd, Letter, Bound, Fate, Entries}
use Rattle.record_values.specs.declared.rule.Rule.{Rule}
use Rattle.record_values.specs.declared.rule.Rule.TheVariants.{K1, K2, K3, K4, K5, K6, K7, K8, K9, K10, K11, K12, K13, K14, K15, K16, K17}

-- the rule of the reduction that a record undoes
abbrev pub rule_undone : Undo → Rule
rule_undone (EmptyRow r) = K1
rule_undone (SingletonRow r) = K2
rule_undone (FixedColumn r) = K3
rule_undone (RoundedBounds r) = K4
rule_undone (RedundantRow r) = K5
rule_undone (RedundantSide r) = K6
rule_undone (ForcingRow r) = K7
rule_undone (BoundTightening r) = K8
rule_undone (CoefficientTightening r) = K9
rule_undone (DualFixing r) = K10
rule_undone (DominatedColumn r) = K11
rule_undone (DoubletonEquation r) = K12
rule_undone (FreeColumnSingleton r) = K13
rule_undone (SlackColumnSingleton r) = K14
rule_undone (ParallelRows r) = K15
rule_undone (ParallelColumns r) = K16
rule_undone (EmptyColumn r) = K17

-- its values: ids of rows and columns first, a list of entries last
abbrev pub values : Undo → List Value
values (EmptyRow r) = Id r.row ∷ []
values (SingletonRow r) = Id r.row ∷ Id r.column ∷ Ratio r.value ∷ LowerEnd r.lower ∷ UpperEnd r.upper ∷ []
values (FixedColumn r) = Id r.column ∷ Ratio r.value ∷ Ratio r.cost ∷ Entries r.entries ∷ []
values (RoundedBounds r) = Id r.column ∷ []
values (RedundantRow r) = Id r.row ∷ []
values (RedundantSide r) = Id r.row ∷ []
values (ForcingRow r) = Id r.row ∷ Letter r.side ∷ Entries r.entries ∷ []
values (BoundTightening r) = Id r.row ∷ Id r.column ∷ Bound r.side r.bound ∷ Entries r.entries ∷ []
values (CoefficientTightening r) = Id r.row ∷ Id r.column ∷ []
values (DualFixing r) = Id r.column ∷ []
values (DominatedColumn r) = Id r.row ∷ Id r.better ∷ Id r.column ∷ []
values (DoubletonEquation r) = Id r.row ∷ Id r.column ∷ Id r.kept ∷ Ratio r.value ∷ Ratio r.kept_value ∷ Ratio r.equal ∷ LowerEnd r.lower ∷ UpperEnd r.upper ∷ Ratio r.cost ∷ Entries r.entries ∷ []
values (FreeColumnSingleton r) = Id r.column ∷ Id r.row ∷ Ratio r.value ∷ Ratio r.at ∷ Ratio r.price ∷ Entries r.entries ∷ []
values (SlackColumnSingleton r) = Id r.column ∷ Id r.row ∷ Ratio r.value ∷ Ratio r.price ∷ LowerEnd r.lower_side ∷ UpperEnd r.upper_side ∷ LowerEnd r.lower ∷ UpperEnd r.upper ∷ Fate r.fate ∷ Entries r.entries ∷ []
values (ParallelRows r) = Id r.row ∷ Id r.kept ∷ Ratio r.factor ∷ LowerEnd r.lower ∷ UpperEnd r.upper ∷ Entries r.entries ∷ []
values (ParallelColumns r) = Id r.column ∷ Id r.kept ∷ Ratio r.factor ∷ LowerEnd r.lower ∷ UpperEnd r.upper ∷ LowerEnd r.kept_lower ∷ UpperEnd r.kept_upper ∷ []
values (EmptyColumn r) = Id r.column ∷ []

-- the record that values make; where they are not those of the rule, that of row 0 stands for it
abbrev pub made : Rule → List Value → Undo
made K1 (Id i ∷ []) = EmptyRow (record { row = i })
made K2 (Id i ∷ Id j ∷ Ratio a ∷ LowerEnd l ∷ UpperEnd u ∷ []) = SingletonRow (record { row = i; column = j; value = a; lower = l; upper = u })
made K3 (Id j ∷ Ratio a ∷ Ratio c ∷ Entries ts ∷ []) = FixedColumn (record { column = j; value = a; cost = c; entries = ts })
made K4 (Id j ∷ []) = RoundedBounds (record { column = j })
made K5 (Id i ∷ []) = RedundantRow (record { row = i })
made K6 (Id i ∷ []) = RedundantSide (record { row = i })
made K7 (Id i ∷ Letter s ∷ Entries ts ∷ []) = ForcingRow (record { row = i; side = s; entries = ts })
made K8 (Id i ∷ Id j ∷ Bound s b ∷ Entries ts ∷ []) = BoundTightening (record { row = i; column = j; side = s; bound = b; entries = ts })
made K9 (Id i ∷ Id j ∷ []) = CoefficientTightening (record { row = i; column = j })
made K10 (Id j ∷ []) = DualFixing (record { column = j })
made K11 (Id i ∷ Id k ∷ Id j ∷ []) = DominatedColumn (record { row = i; better = k; column = j })
made K12 (Id i ∷ Id j ∷ Id k ∷ Ratio a ∷ Ratio b ∷ Ratio e ∷ LowerEnd l ∷ UpperEnd u ∷ Ratio c ∷ Entries ts ∷ []) = DoubletonEquation (record { row = i; column = j; kept = k; value = a; kept_value = b; equal = e; lower = l; upper = u; cost = c; entries = ts })
made K13 (Id j ∷ Id i ∷ Ratio a ∷ Ratio s ∷ Ratio t ∷ Entries ts ∷ []) = FreeColumnSingleton (record { column = j; row = i; value = a; at = s; price = t; entries = ts })
made K14 (Id j ∷ Id i ∷ Ratio a ∷ Ratio t ∷ LowerEnd lo ∷ UpperEnd hi ∷ LowerEnd l ∷ UpperEnd u ∷ Fate f ∷ Entries ts ∷ []) = SlackColumnSingleton (record { column = j; row = i; value = a; price = t; lower_side = lo; upper_side = hi; lower = l; upper = u; fate = f; entries = ts })
made K15 (Id i ∷ Id k ∷ Ratio s ∷ LowerEnd l ∷ UpperEnd u ∷ Entries ts ∷ []) = ParallelRows (record { row = i; kept = k; factor = s; lower = l; upper = u; entries = ts })
made K16 (Id j ∷ Id k ∷ Ratio s ∷ LowerEnd l ∷ UpperEnd u ∷ LowerEnd lo ∷ UpperEnd hi ∷ []) = ParallelColumns (record { column = j; kept = k; factor = s; lower = l; upper = u; kept_lower = lo; kept_upper = hi })
made K17 (Id j ∷ []) = EmptyColumn (record { column = j })
made other vs = EmptyRow (record { row = 0 })
