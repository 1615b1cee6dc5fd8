-- What an ending of a check says of a ray.
use Rattle.std.specs.Prelude.{◌≡◌, ◌↔◌, true, ℕ, List, Some}
use Rattle.file_ports.specs.Ports.{Moment, Told}
use Rattle.lp_model.specs.ProgramData.{ProgramData}
use Rattle.lp_model.specs.Meaning.{meaning}
use Rattle.lp_model.specs.Optimality.{Continuous}
use Rattle.lp_model.specs.Verdicts.{NoPoint}
use Rattle.lp_rays.specs.Ray.{Weights, Ray}
use Rattle.lp_rays.specs.RayData.{RayData, weights_of}
use Rattle.ray_check.specs.Deciding.{ColumnsFit, DecidesRay}
use Rattle.ray_check.specs.Room.{TotalFits}
use Rattle.ray_check.specs.declared.verdict.RayChecked.{RayChecked}
use Rattle.text_lines.specs.declared.fault.Fault.{Fault}
use Rattle.point_text.specs.declared.faults.SolFaultKind.{SolFaultKind}
use Rattle.ray_text.specs.RayLines.{is_ray_text}
use Rattle.endings.specs.Continuity.{NamesFirstNotContinuous}
use Rattle.endings.specs.SolutionTexts.{solution_fault_text}
use Rattle.endings.specs.Moments.{Reads}
use Rattle.endings.specs.declared.reads.TheConstants.{SOLUTION_LIMIT}
use Rattle.endings.specs.declared.ending.Ending.{Ending}
use Rattle.endings.specs.declared.ending.Ending.TheVariants.{Done, NoRoom, Refused, SolutionRefused, Violated}
use Rattle.check_command.specs.GivenTexts.{GivesRay, IsRayOf, ray_fault_of}
use Rattle.check_command.specs.RayVerdictText.{infeasible_text, status_of_ray_verdict, ray_verdict_text}

-- an ending by a verdict on a ray, with its line
abbrev pub TellsRayVerdict : ProgramData → RayChecked → Ending → Type 0
TellsRayVerdict program verdict (Done text) = (status_of_ray_verdict verdict ≡ 0) × (text.items ≡ ray_verdict_text program verdict)
TellsRayVerdict program verdict (NoRoom line) = (status_of_ray_verdict verdict ≡ 6) × (line.items ≡ ray_verdict_text program verdict)
TellsRayVerdict program verdict (Violated line) = (status_of_ray_verdict verdict ≡ 9) × (line.items ≡ ray_verdict_text program verdict)
TellsRayVerdict program verdict ending = ⊥

-- the weights are a ray of a program, and no sum of its check is past
pub record IsRayWithRoom (program : ProgramData) (w : Weights) : Type 0 where
  pub ray : Ray (meaning program) w
  pub columns : ColumnsFit program w
  pub total : TotalFits (meaning program) w

-- the line says yes, and no point of the program is feasible
pub record IsProvedInfeasible (program : ProgramData) (printed : List ℕ) : Type 0 where
  pub line : printed ≡ infeasible_text
  pub none : NoPoint (meaning program)

-- SOL gives a ray, no column of IN has to be whole or is semi-continuous, and this status and this line are those of the verdict on the ray. The
-- status is 0 exactly where it is a ray of IN and no sum is past; it is then a proof.
pub record IsRayJudged (program : ProgramData) (solution : Told) (status : ℕ) (printed : List ℕ) : Type 0 where
  pub ray : RayData
  pub verdict : RayChecked
  pub given : Reads SOLUTION_LIMIT solution (λ text. IsRayOf program text ray)
  pub continuous : Continuous (meaning program)
  pub decides : DecidesRay program (weights_of ray) verdict
  pub answers : status_of_ray_verdict verdict ≡ status
  pub said : printed ≡ ray_verdict_text program verdict
  pub yes : (status ≡ 0) ↔ IsRayWithRoom program (weights_of ray)
  pub proves : status ≡ 0 → IsProvedInfeasible program printed

-- SOL gives a ray, and this line names the first column of IN that has to be whole or is semi-continuous
pub record IsRayNotContinuous (program : ProgramData) (solution : Told) (printed : List ℕ) : Type 0 where
  pub given : Reads SOLUTION_LIMIT solution (λ text. GivesRay program text)
  pub names : NamesFirstNotContinuous program printed

-- this is said of the first fault of a ray's text
abbrev pub SaysRayFault : ProgramData → Told → List ℕ → Type 0
SaysRayFault program solution said = (fault : Fault SolFaultKind)
    × Reads SOLUTION_LIMIT solution (λ text. (is_ray_text text ≡ true) × (ray_fault_of program text ≡ Some (fault.kind, fault.line))) × (said ≡ solution_fault_text fault)

-- what an ending says of a program and of the ray that the text by this name gives
abbrev pub SaysRay : ProgramData → List ℕ → Moment → Moment → Ending → Type 0
SaysRay program name before now (Done text) = IsRayJudged program (before.told name) 0 text.items
SaysRay program name before now (Refused line) = IsRayNotContinuous program (before.told name) line.items
SaysRay program name before now (NoRoom line) = IsRayJudged program (before.told name) 6 line.items
SaysRay program name before now (Violated line) = IsRayJudged program (before.told name) 9 line.items
SaysRay program name before now (SolutionRefused line) = SaysRayFault program (before.told name) line.items
SaysRay program name before now ending = ⊥
