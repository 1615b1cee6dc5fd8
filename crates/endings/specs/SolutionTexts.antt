-- What is said of the text of a solution with or without duals: what it gives, or its first fault.
use Rattle.std.specs.Prelude.{◌≡◌, ◌⊎◌, ℕ, List, [], ◌∷◌, ◌++◌, codes, Option, Some, None}
use Rattle.std.specs.Fmt.{decimal}
use Rattle.fractions.specs.Number.{Number}
use Rattle.fractions.specs.declared.Numbers.TheVariants.{Fractions}
use Rattle.number_texts.specs.Read.{read_of}
use Rattle.exact_texts.specs.Texts.{Reading}
use Rattle.file_ports.specs.Ports.{Moment}
use Rattle.lp_model.specs.ProgramData.{ProgramData}
use Rattle.lp_model.specs.Names.{names_of_rows, names_of_columns}
use Rattle.point_text.specs.Faults.{number_of_kind}
use Rattle.point_text.specs.PairText as texts
use Rattle.text_lines.specs.declared.fault.Fault.{Fault}
use Rattle.point_text.specs.declared.faults.SolFaultKind.{SolFaultKind}
use Rattle.endings.specs.Moments.{IsOverlong, Reads}
use Rattle.endings.specs.declared.reads.TheConstants.{SOLUTION_LIMIT}

-- the first fault, by the names of the program's columns and rows, where numbers are read so
abbrev pub fault_by : Reading → ProgramData → List ℕ → Option (SolFaultKind × ℕ)
fault_by r program text = texts.pair_fault_by r (names_of_columns program.columns) (names_of_rows program.rows) text

-- a text has no fault, and this is the point that it gives, with these duals, if it has duals
abbrev pub IsPairBy : Reading → ProgramData → List ℕ → List Number → Option (List Number) → Type 0
IsPairBy r program text point duals = (fault_by r program text ≡ None)
    × (point ≡ texts.pair_point_by r (names_of_columns program.columns) text) × (duals ≡ texts.pair_duals_by r (names_of_rows program.rows) text)

-- the same by fractions
abbrev pub fault_of : ProgramData → List ℕ → Option (SolFaultKind × ℕ)
fault_of program text = fault_by (read_of Fractions) program text

abbrev pub IsPairOf : ProgramData → List ℕ → List Number → Option (List Number) → Type 0
IsPairOf program text point duals = IsPairBy (read_of Fractions) program text point duals

-- the line that names a fault of a solution's text
abbrev pub solution_fault_text : Fault SolFaultKind → List ℕ
solution_fault_text fault = codes "error S" ++ (decimal (number_of_kind fault.kind) ++ (codes " line " ++ (decimal fault.line ++ 10 ∷ [])))

-- what is said of a solution's text by this name: its first fault; or that it is longer than is read
abbrev pub SaysPairFaultBy : Reading → ProgramData → List ℕ → List ℕ → Moment → Moment → Type 0
SaysPairFaultBy r program name said before now =
    ((fault : Fault SolFaultKind) × Reads SOLUTION_LIMIT (before.told name) (λ text. fault_by r program text ≡ Some (fault.kind, fault.line))
    × (said ≡ solution_fault_text fault))
    ⊎ (IsOverlong SOLUTION_LIMIT name before now × (said ≡ codes "error S6" ++ 10 ∷ []))
