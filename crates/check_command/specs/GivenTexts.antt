-- What the text that SOL holds gives: a ray where its first line that is not blank starts one, else a solution, whose numbers are read as their
-- kind is.
use Rattle.std.specs.Prelude.{◌≡◌, ◌⊎◌, true, false, ℕ, List, [], ◌∷◌, ◌++◌, codes, Option, Some, None, if◌then◌else◌}
use Rattle.fractions.specs.Number.{Number}
use Rattle.file_ports.specs.Ports.{Moment}
use Rattle.lp_model.specs.Names.{names_of_columns, names_of_rows}
use Rattle.lp_model.specs.ProgramData.{ProgramData}
use Rattle.lp_rays.specs.RayData.{RayData}
use Rattle.exact_texts.specs.Texts.{Reading}
use Rattle.text_lines.specs.declared.fault.Fault.{Fault}
use Rattle.point_text.specs.declared.faults.SolFaultKind.{SolFaultKind}
use Rattle.ray_text.specs.RayLines.{is_ray_text}
use Rattle.ray_text.specs.Reading.{ray_fault, ray_in}
use Rattle.endings.specs.Moments.{IsOverlong, Reads}
use Rattle.endings.specs.SolutionTexts.{fault_by, IsPairBy, solution_fault_text}
use Rattle.endings.specs.declared.reads.TheConstants.{SOLUTION_LIMIT}

-- the first fault of a ray's text, by the names of the program's rows and columns, and the ray that it gives
abbrev pub ray_fault_of : ProgramData → List ℕ → Option (SolFaultKind × ℕ)
ray_fault_of program text = ray_fault (names_of_rows program.rows) (names_of_columns program.columns) text

abbrev pub ray_of : ProgramData → List ℕ → RayData
ray_of program text = ray_in (names_of_rows program.rows) (names_of_columns program.columns) text

-- the first fault of a text
abbrev pub given_fault : Reading → ProgramData → List ℕ → Option (SolFaultKind × ℕ)
given_fault r program text = if is_ray_text text then ray_fault_of program text else fault_by r program text

-- a text is not that of a ray and has no fault, and this is the point that it gives, with these duals, if it has duals
abbrev pub IsSolutionOf : Reading → ProgramData → List ℕ → List Number → Option (List Number) → Type 0
IsSolutionOf r program text point duals = (is_ray_text text ≡ false) × IsPairBy r program text point duals

-- a text is that of a ray and has no fault, and this is the ray
abbrev pub IsRayOf : ProgramData → List ℕ → RayData → Type 0
IsRayOf program text ray = (is_ray_text text ≡ true) × (ray_fault_of program text ≡ None) × (ray ≡ ray_of program text)

-- a text has no fault, and gives duals or a ray: of both it is asked that no column has to be whole or is semi-continuous
abbrev pub GivesDuals : Reading → ProgramData → List ℕ → Type 0
GivesDuals r program text = (point : List Number) × (duals : List Number) × IsSolutionOf r program text point (Some duals)

abbrev pub GivesRay : ProgramData → List ℕ → Type 0
GivesRay program text = (ray : RayData) × IsRayOf program text ray

abbrev pub NeedsContinuous : Reading → ProgramData → List ℕ → Type 0
NeedsContinuous r program text = GivesDuals r program text ⊎ GivesRay program text

-- what is said of the text by this name: its first fault; or that it is longer than is read
abbrev pub SaysGivenFault : Reading → ProgramData → List ℕ → List ℕ → Moment → Moment → Type 0
SaysGivenFault r program name said before now =
    ((fault : Fault SolFaultKind) × Reads SOLUTION_LIMIT (before.told name) (λ text. given_fault r program text ≡ Some (fault.kind, fault.line))
    × (said ≡ solution_fault_text fault))
    ⊎ (IsOverlong SOLUTION_LIMIT name before now × (said ≡ codes "error S6" ++ 10 ∷ []))
