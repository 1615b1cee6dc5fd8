-- What is said of a verdict on a ray.
use Rattle.std.specs.Prelude.{ℕ, List, [], ◌∷◌, ◌++◌, codes}
use Rattle.fractions.specs.Number.{Number}
use Rattle.number_texts.specs.Written.{written}
use Rattle.lp_model.specs.ProgramData.{ProgramData}
use Rattle.endings.specs.ProgramTexts.{column_text}
use Rattle.lp_check.specs.declared.verdicts.Item.TheVariants.{Column}
use Rattle.ray_check.specs.declared.verdict.RayChecked.{RayChecked}
use Rattle.ray_check.specs.declared.verdict.RayChecked.TheVariants.{Yes, NoRow, NoColumn, NoTotal, PastColumn, PastTotal}
use Rattle.check_command.specs.VerdictText.{row_text, past_text}

-- what is said of a ray that proves that no point is feasible
abbrev pub infeasible_text : List ℕ
infeasible_text = codes "yes infeasible" ++ 10 ∷ []

-- a row or a column that does not pass, and a total that is not above 0
abbrev pub no_row_text : ProgramData → ℕ → List ℕ
no_row_text program i = codes "no ray row " ++ (row_text program i ++ 10 ∷ [])

abbrev pub no_column_text : ProgramData → ℕ → List ℕ
no_column_text program j = codes "no ray column " ++ (column_text program j ++ 10 ∷ [])

abbrev pub no_total_text : Number → List ℕ
no_total_text total = codes "no ray total " ++ (written total ++ 10 ∷ [])

-- the total, where it is past
abbrev pub past_total_text : List ℕ
past_total_text = codes "past total" ++ 10 ∷ []

-- the printed line of a verdict on a ray
abbrev pub ray_verdict_text : ProgramData → RayChecked → List ℕ
ray_verdict_text program Yes = infeasible_text
ray_verdict_text program (NoRow i) = no_row_text program i
ray_verdict_text program (NoColumn j) = no_column_text program j
ray_verdict_text program (NoTotal total) = no_total_text total
ray_verdict_text program (PastColumn j) = past_text program (Column j)
ray_verdict_text program PastTotal = past_total_text

-- its exit status
abbrev pub status_of_ray_verdict : RayChecked → ℕ
status_of_ray_verdict Yes = 0
status_of_ray_verdict (PastColumn j) = 6
status_of_ray_verdict PastTotal = 6
status_of_ray_verdict (NoRow i) = 9
status_of_ray_verdict (NoColumn j) = 9
status_of_ray_verdict (NoTotal total) = 9
