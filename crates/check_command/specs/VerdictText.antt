-- What is said of a verdict on a point, and on a point with duals. Values are written as their kind of numbers is, the program's own limits as
-- fractions.
use Rattle.std.specs.Prelude.{ℕ, List, [], ◌∷◌, ◌++◌, codes, Some, None, slice_index_or}
use Rattle.fractions.specs.Number.{Number}
use Rattle.number_texts.specs.Written.{written}
use Rattle.exact_texts.specs.Texts.{Writing}
use Rattle.lp_model.specs.ProgramData.{ProgramData}
use Rattle.lp_model.specs.Names.{names_of_rows}
use Rattle.endings.specs.ProgramTexts.{column_text}
use Rattle.lp_check.specs.declared.verdicts.Item.{Item}
use Rattle.lp_check.specs.declared.verdicts.Item.TheVariants.{Column, Row, Cost}
use Rattle.lp_check.specs.declared.verdicts.Limit.{Limit}
use Rattle.lp_check.specs.declared.verdicts.Limit.TheVariants.{Below, Above, NotWhole}
use Rattle.lp_check.specs.declared.verdicts.Verdict.{Verdict}
use Rattle.lp_check.specs.declared.verdicts.Verdict.TheVariants.{Yes, No, Past}
use Rattle.lp_check.specs.declared.pair_verdicts.End.{End}
use Rattle.lp_check.specs.declared.pair_verdicts.End.TheVariants.{Lower, Upper}
use Rattle.lp_check.specs.declared.pair_verdicts.Misplaced.{Misplaced}
use Rattle.lp_check.specs.declared.pair_verdicts.PairVerdict.{PairVerdict}
use Rattle.lp_check.specs.declared.pair_verdicts.PairVerdict.TheVariants.{OnPoint, Dual, ReducedCost, PastReducedCost}

abbrev pub row_text : ProgramData → ℕ → List ℕ
row_text program i = slice_index_or (names_of_rows program.rows) i []

-- an item by the program's names
abbrev pub item_text : ProgramData → Item → List ℕ
item_text program (Column j) = codes "column " ++ column_text program j
item_text program (Row i) = codes "row " ++ row_text program i
item_text program Cost = codes "cost"

-- how a value breaks a limit
abbrev pub limit_text : Limit → List ℕ
limit_text (Below end) = codes " below " ++ written end
limit_text (Above end) = codes " above " ++ written end
limit_text NotWhole = codes " not whole"

abbrev pub yes_text : Writing → Number → List ℕ
yes_text w cost = codes "yes cost " ++ (w cost ++ 10 ∷ [])

abbrev pub no_text : Writing → ProgramData → Item → Number → Limit → List ℕ
no_text w program item v limit = codes "no " ++ (item_text program item ++ (codes " value " ++ (w v ++ (limit_text limit ++ 10 ∷ []))))

abbrev pub past_text : ProgramData → Item → List ℕ
past_text program item = codes "past " ++ (item_text program item ++ 10 ∷ [])

-- the printed line of a verdict
abbrev pub verdict_text : Writing → ProgramData → Verdict Number → List ℕ
verdict_text w program (Yes cost) = yes_text w cost
verdict_text w program (No item v limit) = no_text w program item v limit
verdict_text w program (Past item) = past_text program item

-- the exit status of a verdict
abbrev pub status_of_verdict : Verdict Number → ℕ
status_of_verdict (Yes cost) = 0
status_of_verdict (Past item) = 6
status_of_verdict (No item v limit) = 9

-- ---- with duals
-- an end, which may be infinite
abbrev pub end_text : End → List ℕ
end_text (Lower None) = codes "-inf"
end_text (Lower (Some end)) = written end
end_text (Upper None) = codes "inf"
end_text (Upper (Some end)) = written end

-- a dual, the row's value, and the side that the dual's sign asks for
abbrev pub no_dual_text : Writing → ProgramData → ℕ → Misplaced Number → List ℕ
no_dual_text w program i found = codes "no dual " ++ (row_text program i ++ (codes " y " ++ (w found.multiplier
    ++ (codes " value " ++ (w found.value ++ (codes " side " ++ (end_text found.end ++ 10 ∷ [])))))))

-- a reduced cost, the column's value, and the bound that the reduced cost's sign asks for
abbrev pub no_reduced_cost_text : Writing → ProgramData → ℕ → Misplaced Number → List ℕ
no_reduced_cost_text w program j found = codes "no reduced cost " ++ (column_text program j ++ (codes " z " ++ (w found.multiplier
    ++ (codes " value " ++ (w found.value ++ (codes " bound " ++ (end_text found.end ++ 10 ∷ [])))))))

-- the printed line of a verdict on a point with duals
abbrev pub pair_verdict_text : Writing → ProgramData → PairVerdict Number → List ℕ
pair_verdict_text w program (OnPoint verdict) = verdict_text w program verdict
pair_verdict_text w program (Dual i found) = no_dual_text w program i found
pair_verdict_text w program (ReducedCost j found) = no_reduced_cost_text w program j found
pair_verdict_text w program (PastReducedCost j) = past_text program (Column j)

-- its exit status
abbrev pub status_of_pair_verdict : PairVerdict Number → ℕ
status_of_pair_verdict (OnPoint verdict) = status_of_verdict verdict
status_of_pair_verdict (Dual i found) = 9
status_of_pair_verdict (ReducedCost j found) = 9
status_of_pair_verdict (PastReducedCost j) = 6
