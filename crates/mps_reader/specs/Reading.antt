-- What a reader holds after some lines, and what reading a text gives.
use Rattle.std.specs.Prelude.{◌≡◌, ◌≤◌, ℕ, List, ◌∷◌, length, Option, Some, None, Result, Ok, Err}
use Rattle.lp_model.specs.ProgramData.{ProgramData}
use Rattle.mps_profile.specs.Texts.{Text}
use Rattle.mps_profile.specs.Cards.{Card}
use Rattle.mps_profile.specs.Items.{Item, progress_of, cards_of, progress_after, cards_after}
use Rattle.mps_profile.specs.Reading.{item_fault, line_fault, first_fault, lines_read}
use Rattle.mps_profile.specs.Program.{program_of}
use Rattle.mps_profile.specs.declared.dialect.Dialect.{Dialect}
use Rattle.mps_profile.specs.declared.progress.Progress.{Progress}
use Rattle.mps_profile.specs.declared.faults.MpsFaultKind.{MpsFaultKind}
use Rattle.mps_tables.specs.Tables.{Holds}
use Rattle.mps_tables.specs.declared.faults.Stop.{Stop}
use Rattle.mps_tables.specs.declared.faults.Stop as stops
use Rattle.mps_reader.specs.declared.faults.MpsError.{MpsError}
use Rattle.mps_reader.specs.declared.faults.MpsError as errors
use Rattle.mps_reader.specs.declared.reader.Reader.{Reader}

-- the reader is that of the lines, of which the nearest stands first
pub record Has (dialect : Dialect) (lines : List Text) (reader : Reader) : Type 0 where
  pub progress : reader.progress ≡ progress_of dialect.format lines
  pub tables : Holds dialect (cards_of dialect.format lines) reader.tables

-- the reader came further, or its fault is told
abbrev pub Moved : {T : Type 0} → Option MpsFaultKind → Progress → Result T Stop → Reader → Reader → Type 0
Moved fault next (Ok done) old new = (fault ≡ None) × (new ≡ record old { progress = next })
Moved fault next (Err (stops.TheVariants.Fault told)) old new = fault ≡ Some told
Moved fault next (Err stops.TheVariants.OutOfMemory) old new = Unit {0}

-- what a line says was taken, or its first fault is told
abbrev pub TookItem : {T : Type 0} → Dialect → List Card → Result Item MpsFaultKind → Result T Stop → Reader → Reader → Type 0
TookItem dialect cards item (Ok done) old new =
    (item_fault dialect cards item ≡ None) × (new.progress ≡ progress_after old.progress item) × Holds dialect (cards_after cards item) new.tables
TookItem dialect cards item (Err (stops.TheVariants.Fault told)) old new = item_fault dialect cards item ≡ Some told
TookItem dialect cards item (Err stops.TheVariants.OutOfMemory) old new = Unit {0}

-- a line was taken, or its first fault is told
abbrev pub TookLine : {T : Type 0} → Dialect → List Text → Text → List Text → Result T Stop → Reader → Type 0
TookLine dialect before line after (Ok done) new = (line_fault dialect before line after ≡ None) × Has dialect (line ∷ before) new
TookLine dialect before line after (Err (stops.TheVariants.Fault told)) new = line_fault dialect before line after ≡ Some told
TookLine dialect before line after (Err stops.TheVariants.OutOfMemory) new = Unit {0}

-- the text has no fault, and the reader is that of its lines, which are no more than its bytes
pub record HasRead (dialect : Dialect) (text : List ℕ) (reader : Reader) : Type 0 where
  pub sound : first_fault dialect text ≡ None
  pub has : Has dialect (lines_read dialect text) reader
  pub few : length (lines_read dialect text) ≤ length text

-- the reader is that of the text, or the error is the text's first fault
abbrev pub AreLines : Dialect → List ℕ → Result Reader MpsError → Type 0
AreLines dialect text (Ok reader) = HasRead dialect text reader
AreLines dialect text (Err (errors.TheVariants.Fault fault)) = first_fault dialect text ≡ Some (fault.kind, fault.line)
AreLines dialect text (Err errors.TheVariants.NoMemory) = Unit {0}

-- the program is that of the text, which has no fault, or the error is the text's first fault
abbrev pub IsRead : Dialect → List ℕ → Result ProgramData MpsError → Type 0
IsRead dialect text (Ok program) = (first_fault dialect text ≡ None) × (program ≡ program_of dialect text)
IsRead dialect text (Err (errors.TheVariants.Fault fault)) = first_fault dialect text ≡ Some (fault.kind, fault.line)
IsRead dialect text (Err errors.TheVariants.NoMemory) = Unit {0}
