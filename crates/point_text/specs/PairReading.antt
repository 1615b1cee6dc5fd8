-- What the reading of a solution with duals gives.
use Rattle.std.specs.Prelude.{◌≡◌, ℕ, ◌+◌, ◌≤◌, List, [], length, Option, Some, None, Result, Ok, Err}
use Rattle.fractions.specs.Number.{Number}
use Rattle.exact_texts.specs.Texts.{Reading}
use Rattle.text_lines.specs.Lines.{lines_of}
use Rattle.mps_profile.specs.Texts.{Text}
use Rattle.lp_model.specs.declared.point.Pair.{Pair}
use Rattle.point_text.specs.Reading.{fault_from_by, said_from}
use Rattle.point_text.specs.Holding.{Holds}
use Rattle.point_text.specs.PairText.{column_lines, row_lines, silent, columns_fault_by, pair_fault_by, pair_point_by, pair_duals_by, given_to_by, pair_fault, pair_point, pair_duals}
use Rattle.point_text.specs.declared.faults.SolError.{SolError}
use Rattle.point_text.specs.declared.faults.SolError.TheVariants.{Fault, NoMemory}
use Rattle.point_text.specs.declared.pair_reading.DualPart.{DualPart}
use Rattle.point_text.specs.declared.pair_reading.ColumnPart.{ColumnPart}
use Rattle.point_text.specs.declared.pairs.PairOf.{PairOf}

-- where the lines of a text go on after the line of the duals, if there is one
abbrev pub IsPart : List ℕ → Option DualPart → Type 0
IsPart text None = row_lines (lines_of text) ≡ None
IsPart text (Some part) = (row_lines (lines_of text) ≡ Some (lines_of part.text.now))
    × (part.line ≡ length (column_lines (lines_of text)) + 1) × (part.line + length part.text.now ≤ length text)

-- the lines of columns were taken in, or their first fault is told
abbrev pub TookColumns : Reading → List Text → List ℕ → Result (Option DualPart) SolError → (Text → Option Number) → Type 0
TookColumns r names text (Ok part) new = (columns_fault_by r names (lines_of text) ≡ None) × Holds r (said_from [] (column_lines (lines_of text))) new × IsPart text part
TookColumns r names text (Err (Fault fault)) new = columns_fault_by r names (lines_of text) ≡ Some (fault.kind, fault.line)
TookColumns r names text (Err NoMemory) new = Unit {0}

-- the first fault of the lines of columns
abbrev pub IsColumnsFault : Reading → List Text → List ℕ → SolError → Type 0
IsColumnsFault r names text (Fault fault) = columns_fault_by r names (lines_of text) ≡ Some (fault.kind, fault.line)
IsColumnsFault r names text NoMemory = Unit {0}

-- the point of a text whose lines of columns have no fault, or their first fault
abbrev pub AreColumnsRead : {A B : Type 0} → Reading → List Text → List ℕ → Result (ColumnPart A B) SolError → Type 0
AreColumnsRead r names text (Ok part) = (columns_fault_by r names (lines_of text) ≡ None) × (part.point ≡ pair_point_by r names text) × IsPart text part.duals
AreColumnsRead r names text (Err error) = IsColumnsFault r names text error

-- the duals of a text without a fault that follows so many lines, or its first fault
abbrev pub AreDualsRead : Reading → List Text → ℕ → List ℕ → Result (List Number) SolError → Type 0
AreDualsRead r names before text (Ok duals) = (fault_from_by r names (silent before) (lines_of text) ≡ None) × (duals ≡ given_to_by r names (lines_of text))
AreDualsRead r names before text (Err (Fault fault)) = fault_from_by r names (silent before) (lines_of text) ≡ Some (fault.kind, fault.line)
AreDualsRead r names before text (Err NoMemory) = Unit {0}

-- the point and the duals of a text without a fault, or the first fault with its line
abbrev pub IsPairReadBy : {A B : Type 0} → Reading → List Text → List Text → List ℕ → Result (PairOf A B) SolError → Type 0
IsPairReadBy r columns rows text (Ok pair) = (pair_fault_by r columns rows text ≡ None) × (pair.point ≡ pair_point_by r columns text) × (pair.duals ≡ pair_duals_by r rows text)
IsPairReadBy r columns rows text (Err (Fault fault)) = pair_fault_by r columns rows text ≡ Some (fault.kind, fault.line)
IsPairReadBy r columns rows text (Err NoMemory) = Unit {0}

-- the same in a `Frac`
abbrev pub IsPairRead : List Text → List Text → List ℕ → Result Pair SolError → Type 0
IsPairRead columns rows text (Ok pair) = (pair_fault columns rows text ≡ None) × (pair.point ≡ pair_point columns text) × (pair.duals ≡ pair_duals rows text)
IsPairRead columns rows text (Err (Fault fault)) = pair_fault columns rows text ≡ Some (fault.kind, fault.line)
IsPairRead columns rows text (Err NoMemory) = Unit {0}
