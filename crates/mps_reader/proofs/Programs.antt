-- The program of a reader that has read a text.
use Rattle.std.proofs.Common.{◌≡◌, ◌∙◌, ℕ, ◌<◌, ◌^◌, List, length, sym, subst, ap, arith}
use Rattle.lp_model.specs.ProgramData.{ProgramData}
use Rattle.mps_profile.specs.Cards.{Card}
use Rattle.mps_profile.specs.Items.{cards_of}
use Rattle.mps_profile.specs.Reading.{lines_read}
use Rattle.mps_profile.specs.Rows.{row_names}
use Rattle.mps_profile.specs.Program.{program_in, program_of}
use Rattle.mps_profile.specs.declared.dialect.Dialect.{Dialect}
use Rattle.mps_profile.specs.declared.progress.Progress.{Progress}
use Rattle.mps_laws.proofs.Counts.{rows_per_line, program_rows_per_line, program_columns_per_line}
use Rattle.mps_laws.proofs.Entries.{columns_ascend}
use Rattle.mps_laws.proofs.Faultless.{faultless}
use Rattle.lp_model.specs.Writable.{Writable, EntriesAscend}
use Rattle.mps_named.proofs.ProgramRoom.{program-fits}
use Rattle.mps_tables.specs.Tables.{Holds}
use Rattle.mps_assembly.specs.Assembled.{AreOf}
use Rattle.mps_assembly.specs.declared.assembly.Parts.{Parts}
use Rattle.mps_reader.specs.declared.reader.Reader.{Reader}
use Rattle.mps_reader.specs.Reading.{HasRead}

-- the cards of a text
abbrev pub cards_in : Dialect → List ℕ → List Card
cards_in dialect text = cards_of dialect.format (lines_read dialect text)

-- the parts of the tables are those of the text's cards
pub parts_are : (dialect : Dialect) (text : List ℕ) (reader : Reader) (parts : Parts) → HasRead dialect text reader
    → ((cards : List Card) → Holds reader.tables.dialect cards reader.tables → AreOf reader.tables.dialect cards parts)
    → AreOf dialect (cards_in dialect text) parts
parts_are dialect text reader parts read gives =
    let P : Dialect → Type 0 = λ d. Holds d (cards_in dialect text) reader.tables in
    let Q : Dialect → Type 0 = λ d. AreOf d (cards_in dialect text) parts in
    subst Q read.has.tables.manner (gives (cards_in dialect text) (subst P (sym read.has.tables.manner) read.has.tables))

pub few_rows : (dialect : Dialect) (text : List ℕ) (reader : Reader) (parts : Parts) → HasRead dialect text reader → AreOf dialect (cards_in dialect text) parts
    → length text < 2 ^ 32 → length parts.rows.names.now < 2 ^ 32
few_rows dialect text reader parts read are short =
    let rows : length parts.rows.names.now ≡ length (row_names (cards_in dialect text)) = ap length are.rows in
    let lines = rows_per_line dialect.format (lines_read dialect text) in
    omega (arith, rows, lines, read.few, short)

pub program_as : (dialect : Dialect) (text : List ℕ) (reader : Reader) (program : ProgramData) → HasRead dialect text reader
    → program ≡ program_in dialect reader.progress.sense (cards_in dialect text) → program ≡ program_of dialect text
program_as dialect text reader program read is = is ∙ ap (λ (p : Progress). program_in dialect p.sense (cards_in dialect text)) read.has.progress

pub writable_as : (dialect : Dialect) (text : List ℕ) (reader : Reader) (program : ProgramData) → HasRead dialect text reader
    → program ≡ program_in dialect reader.progress.sense (cards_in dialect text) → Writable dialect.numbers program
writable_as dialect text reader program read is =
    let P : ProgramData → Type 0 = λ p. Writable dialect.numbers p in
    subst P (sym is) (program-fits dialect reader.progress.sense (cards_in dialect text) (faultless dialect text read.sound))

-- the program has as many rows and columns as the text lines, at most
pub few_as : (dialect : Dialect) (text : List ℕ) (reader : Reader) (program : ProgramData) → HasRead dialect text reader
    → program ≡ program_in dialect reader.progress.sense (cards_in dialect text) → length text < 2 ^ 32
    → (length program.rows < 2 ^ 32) × (length program.columns < 2 ^ 32)
few_as dialect text reader program read is short =
    let same = program_as dialect text reader program read is in
    let rows = program_rows_per_line dialect text in
    let columns = program_columns_per_line dialect text in
    let P : ProgramData → Type 0 = λ p. (length p.rows < 2 ^ 32) × (length p.columns < 2 ^ 32) in
    subst P (sym same) (omega (arith, rows, read.few, short), omega (arith, columns, read.few, short))

pub ascends_as : (dialect : Dialect) (text : List ℕ) (reader : Reader) (program : ProgramData) → HasRead dialect text reader
    → program ≡ program_in dialect reader.progress.sense (cards_in dialect text) → EntriesAscend program
ascends_as dialect text reader program read is = subst EntriesAscend (sym is) (columns_ascend dialect reader.progress.sense (cards_in dialect text))
