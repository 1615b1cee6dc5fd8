-- What reading tokens, lines and texts gives.
use Rattle.std.specs.Prelude.{◌≡◌, ◌&&◌, not, ℕ, Bool, true, List, ◌∷◌, Option, Some, None, Result, Ok, Err}
use Rattle.lp_model.specs.ProgramData.{ProgramData}
use Rattle.opb_text.specs.Tokens.{End, Token}
use Rattle.opb_text.specs.Statements.{statement_fits}
use Rattle.opb_text.specs.Reading.{first_fault, going_on, is_end, line_fault, token_fault, tokens_of}
use Rattle.opb_text.specs.Program.{program_of}
use Rattle.opb_text.specs.declared.faults.OpbFaultKind.{OpbFaultKind}
use Rattle.opb_columns.specs.declared.columns.Columns.{Columns}
use Rattle.opb_reader.specs.declared.rows.Rows.{Rows}
use Rattle.opb_reader.specs.Holding.{HoldColumns, HoldRows, Holds}
use Rattle.opb_reader.specs.declared.faults.OpbError.{OpbError}
use Rattle.opb_reader.specs.declared.faults.OpbError.TheVariants.{Fault, NoMemory}
use Rattle.opb_reader.specs.declared.reader.Reader.{Reader}

-- a statement ended, where its sums fit
abbrev pub HasEnded : List Token → Bool → Rows → Columns → Type 0
HasEnded tokens fits rows columns = (fits ≡ statement_fits tokens) × (fits ≡ true → HoldRows (End ∷ tokens) rows × HoldColumns (End ∷ tokens) columns)

-- rows and columns heard a token, but for the end of a statement whose sums do not fit
abbrev pub HasHeard : List Token → Token → Bool → Rows → Columns → Type 0
HasHeard tokens token heard rows columns =
    (heard ≡ not (is_end token && not (statement_fits tokens))) × (heard ≡ true → HoldRows (token ∷ tokens) rows × HoldColumns (token ∷ tokens) columns)

-- a token was taken, or its fault is told
abbrev pub TookToken : {Error : Type 0} → List Token → Token → Result (Option OpbFaultKind) Error → Reader → Type 0
TookToken tokens token (Ok None) new = (token_fault tokens token ≡ None) × Holds (token ∷ tokens) new
TookToken tokens token (Ok (Some kind)) new = token_fault tokens token ≡ Some kind
TookToken tokens token (Err error) new = Unit {0}

-- the tokens of a line were taken, or its fault with the lowest number is told
abbrev pub TookLine : {Error : Type 0} → List Token → List Token → Result (Option OpbFaultKind) Error → Reader → Type 0
TookLine before line (Ok None) new = (line_fault before line ≡ None) × Holds (going_on before line) new
TookLine before line (Ok (Some kind)) new = line_fault before line ≡ Some kind
TookLine before line (Err error) new = Unit {0}

-- the text has no fault, and the reader is that of its tokens; or the error is its first fault
abbrev pub AreTokens : List ℕ → Result Reader OpbError → Type 0
AreTokens text (Ok reader) = (first_fault text ≡ None) × Holds (tokens_of text) reader
AreTokens text (Err (Fault fault)) = first_fault text ≡ Some (fault.kind, fault.line)
AreTokens text (Err NoMemory) = Unit {0}

-- the program is that of the text, which has no fault; or the error is its first fault
abbrev pub IsRead : List ℕ → Result ProgramData OpbError → Type 0
IsRead text (Ok program) = (first_fault text ≡ None) × (program ≡ program_of text)
IsRead text (Err (Fault fault)) = first_fault text ≡ Some (fault.kind, fault.line)
IsRead text (Err NoMemory) = Unit {0}
