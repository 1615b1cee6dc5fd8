-- The texts that pass from a presolve to a solver and to a postsolve.
use Rattle.std.specs.Prelude.{◌≡◌, ◌≢◌, ℕ, true, List, codes, Option, Some, None, All, IfSome}
use Rattle.fractions.specs.Number.{Number}
use Rattle.fractions.specs.declared.Numbers.TheVariants.{Fractions}
use Rattle.exact_texts.specs.Texts.{Texts}
use Rattle.lp_model.specs.Names.{names_of_columns, names_of_rows}
use Rattle.lp_model.specs.ProgramData.{ProgramData}
use Rattle.undo_records.specs.Postsolve.{Postsolve}
use Rattle.mps_profile.specs.Reading as programs
use Rattle.mps_profile.specs.Program.{program_of}
use Rattle.mps_writer.specs.MpsText.{mps_text}
use Rattle.mps_written_lines.specs.Formats.{free_format}
use Rattle.mps_round_trip.specs.Plain.{Plain}
use Rattle.point_text.specs.PairText.{pair_duals_by, pair_fault_by, pair_point_by, pair_text_by}
use Rattle.point_text.specs.SolutionText.{solution_text_by}
use Rattle.point_text.specs.WrittenNames.{AreNumberedBy}
use Rattle.record_values.specs.declared.version.TextVersion.TheVariants.{Second}
use Rattle.record_file.specs.RecordText as files
use Rattle.record_reader.specs.Matching.{Matches}
use Rattle.record_reader.specs.Reading as records
use Rattle.record_round_trip.specs.Ranges.{HasRange}
use Rattle.presolve_model.specs.Telling.{names_in}
use Rattle.presolve_model.specs.Conclusions.{Concluded}
use Rattle.presolve_model.specs.declared.conclusion.End.{End}
use Rattle.presolve_model.specs.declared.conclusion.Options.{Options}
use Rattle.presolve_model.specs.Workers.{Workers}
use Rattle.whole_way.specs.ComingBack.{IsPairUndone, IsUndone}

-- ---- what texts give
-- a text in free format, read with fractions, has no fault, and is that of this program
pub record IsProgramText (text : List ℕ) (program : ProgramData) : Type 0 where
  pub sound : programs.first_fault (free_format Fractions) text ≡ None
  pub same : program_of (free_format Fractions) text ≡ program

-- a text of records has no fault, and gives these
pub record IsRecordText (text : List ℕ) (told : Postsolve) : Type 0 where
  pub sound : records.first_fault text ≡ None
  pub same : records.records_of text ≡ told

-- a text of a solution, whose numbers are read as those of a kind are, has no fault for the program's columns and rows, and gives the columns
-- these numbers, and the rows these duals, if it gives duals
pub record IsSolutionText (t : Texts) (program : ProgramData) (text : List ℕ) (point : List Number) (duals : Option (List Number)) : Type 0 where
  pub sound : pair_fault_by t.reading (names_of_columns program.columns) (names_of_rows program.rows) text ≡ None
  pub same : pair_point_by t.reading (names_of_columns program.columns) text ≡ point
  pub same_duals : pair_duals_by t.reading (names_of_rows program.rows) text ≡ duals

-- ---- what is written
-- not the word that a solution's text has for the objective's value
abbrev pub IsUnmarked : List ℕ → Type 0
IsUnmarked name = name ≢ codes "=obj="

-- Presolve concluded with a reduced program and records, and wrote their texts, `out` and `undoing`. The program's names can be written,
-- and its columns' names also in a solution's text; the records' ids and numbers have room, as all values of their type do.
pub record PresolveWrites (options : Options) (workers : Workers) (program : ProgramData) (out undoing : List ℕ) : Type 0 where
  pub reduced : ProgramData
  pub told : Postsolve
  pub ended : End
  pub concluded : Concluded options workers program reduced told ended
  pub plain : Plain program
  pub unmarked : All IsUnmarked (names_of_columns program.columns)
  pub range : HasRange told
  pub program_text : out ≡ mps_text reduced
  pub records_text : undoing ≡ files.record_text Second told

-- Postsolve undid the records at a point, and wrote the lifted point by the names of the original columns, with the texts of a kind of numbers.
-- Its numbers are short enough to be read again: all values of a `Frac` are, and of the numbers of any width those whose terms have no more
-- digits than are read.
pub record PostsolveWrites (t : Texts) (told : Postsolve) (point : List Number) (result : List ℕ) : Type 0 where
  pub lifted : List Number
  pub undone : IsUndone told point lifted
  pub short : All t.IsShort lifted
  pub text : result ≡ solution_text_by t.writing (names_in told.columns) lifted

-- The same of a pair, by records that undo duals too: the lifted point and the duals by the names of the original columns and rows.
pub record PostsolveWritesPair (t : Texts) (told : Postsolve) (reduced : ProgramData) (point duals : List Number) (result : List ℕ) : Type 0 where
  pub lifted : List Number
  pub prices : List Number
  pub asked : told.duals ≡ true
  pub undone : IsPairUndone told reduced point duals lifted prices
  pub short : All t.IsShort lifted
  pub prices_short : All t.IsShort prices
  pub text : result ≡ pair_text_by t.writing (names_in told.columns) (names_in told.rows) lifted (Some prices)

-- What is written of a pair, with the texts of a kind of numbers, is read again without a fault: the names are plain and differ, and each number
-- is short enough.
pub record PairsAgain (t : Texts) : Type 0 where
  pub fault : (columns rows : List (List ℕ)) (point : List Number) (duals : Option (List Number)) → AreNumberedBy t.IsShort columns point → IfSome duals (λ d. AreNumberedBy t.IsShort rows d)
      → pair_fault_by t.reading columns rows (pair_text_by t.writing columns rows point duals) ≡ None
  pub point : (columns rows : List (List ℕ)) (point : List Number) (duals : Option (List Number)) → AreNumberedBy t.IsShort columns point
      → pair_point_by t.reading columns (pair_text_by t.writing columns rows point duals) ≡ point
  pub duals : (columns rows : List (List ℕ)) (point : List Number) (duals : Option (List Number)) → AreNumberedBy t.IsShort columns point → IfSome duals (λ d. AreNumberedBy t.IsShort rows d)
      → pair_duals_by t.reading rows (pair_text_by t.writing columns rows point duals) ≡ duals

-- the texts are read as this program and these records, and the records are those of the program
pub record TextsFit (reduced : ProgramData) (told : Postsolve) (out undoing : List ℕ) : Type 0 where
  pub program_text : IsProgramText out reduced
  pub records_text : IsRecordText undoing told
  pub matches : Matches told reduced
