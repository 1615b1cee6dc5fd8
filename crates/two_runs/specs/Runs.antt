-- A presolve, and later a postsolve of what it left.
use Rattle.std.specs.Prelude.{◌≡◌, ℕ, Bool, true, List, All, Option, Some, IfSome}
use Rattle.fractions.specs.Number.{Number}
use Rattle.fractions.specs.Room.{in_any_width}
use Rattle.exact_texts.specs.Kinds.{texts_of, wide_texts}
use Rattle.file_ports.specs.Ports.{Moment}
use Rattle.command_words.specs.Names.{PostsolveNames, PresolveNames}
use Rattle.lp_model.specs.Names.{names_of_columns, names_of_rows}
use Rattle.lp_model.specs.ProgramData.{ProgramData}
use Rattle.mps_round_trip.specs.Plain.{Plain}
use Rattle.point_text.specs.PairText.{pair_duals_by, pair_point_by}
use Rattle.record_reader.specs.Reading.{records_of}
use Rattle.undo_records.specs.Postsolve.{Postsolve}
use Rattle.endings.specs.Forms.{form_of}
use Rattle.endings.specs.ProgramTexts.{program_in}
use Rattle.presolve_command.specs.Presolved.{IsPresolved}
use Rattle.postsolve_command.specs.Given.{reduced_form}
use Rattle.postsolve_command.specs.Lifted.{IsLifted}
use Rattle.postsolve_command.specs.Postsolved.{IsPostsolved}
use Rattle.whole_way.specs.Texts.{IsUnmarked}

-- a name holds these bytes
abbrev pub Holds : Moment → List ℕ → List ℕ → Type 0
Holds moment name bytes = moment.told name ≡ Some (Some bytes)

-- the bytes of the five files, and what presolve printed
pub record Way : Type 0 where
  pub input : List ℕ
  pub output : List ℕ
  pub records : List ℕ
  pub solution : List ℕ
  pub result : List ℕ
  pub printed : List ℕ

-- Presolve ended at 0, and a later postsolve ended at 0. It found OUT and REC as presolve had left them.
pub record AreRun (first : PresolveNames) (second : PostsolveNames) (way : Way) : Type 0 where
  pub before : Moment
  pub left : Moment
  pub found : Moment
  pub now : Moment
  pub counts : List ℕ
  pub presolved : IsPresolved first way.printed before left
  pub postsolved : IsPostsolved second counts found now
  pub input : Holds before first.input way.input
  pub output_left : Holds left first.output way.output
  pub records_left : Holds left first.records way.records
  pub output_found : Holds found second.program way.output
  pub records_found : Holds found second.records way.records
  pub solution : Holds found second.solution way.solution
  pub result : Holds now second.result way.result

-- the program of IN, and the one of OUT
abbrev pub original : PresolveNames → Way → ProgramData
original first way = program_in (form_of first.options) way.input

abbrev pub reduced : Way → ProgramData
reduced way = program_in reduced_form way.output

-- the records of REC
abbrev pub records_in : Way → Postsolve
records_in way = records_of way.records

-- the point that a solution's bytes give a program, and the duals, if they give duals, where its numbers may have any width or not
abbrev pub point_in : Bool → ProgramData → List ℕ → List Number
point_in wide program bytes = pair_point_by (texts_of wide).reading (names_of_columns program.columns) bytes

abbrev pub duals_in : Bool → ProgramData → List ℕ → Option (List Number)
duals_in wide program bytes = pair_duals_by (texts_of wide).reading (names_of_rows program.rows) bytes

-- The program's names can stand in OUT and in RESULT, where no column has the name of a mark, and with duals no row.
pub record CanBeWritten (program : ProgramData) (duals : Option (List Number)) : Type 0 where
  pub plain : Plain program
  pub columns : All IsUnmarked (names_of_columns program.columns)
  pub rows : IfSome duals (λ y. All IsUnmarked (names_of_rows program.rows))

-- Where SOL's numbers may have any width: the terms of each number that the records make of them have no more digits than are read.
abbrev pub AreShort : Way → Type 0
AreShort way = (lifted : List Number) (prices : Option (List Number))
    → IsLifted in_any_width (records_in way) (reduced way) (point_in true (reduced way) way.solution) (duals_in true (reduced way) way.solution) lifted prices
    → All wide_texts.IsShort lifted × IfSome prices (All wide_texts.IsShort)
