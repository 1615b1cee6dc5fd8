-- The first fault of a text, and the tokens of one without.
use Rattle.std.specs.Prelude.{ℕ, suc, Bool, true, false, not, ◌&&◌, List, [], ◌∷◌, Option, Some, None, is_none, if◌then◌else◌}
use Rattle.text_lines.specs.Faults.{or_later}
use Rattle.text_lines.specs.Lines.{lines_of}
use Rattle.opb_text.specs.Words.{Text}
use Rattle.opb_text.specs.Tokens.{Token, End, Past, Plain, Negated, Odd, tokens_on}
use Rattle.opb_text.specs.Places.{behind, is_between}
use Rattle.opb_text.specs.Statements.{statement_fits}
use Rattle.opb_text.specs.Faults.{least}
use Rattle.opb_text.specs.declared.places.Place.{Place}
use Rattle.opb_text.specs.declared.places.Place.TheVariants.{Start}
use Rattle.opb_text.specs.declared.faults.OpbFaultKind.{OpbFaultKind}
use Rattle.opb_text.specs.declared.faults.OpbFaultKind.TheVariants.{BadToken, NumberPast, Product, NoEnd, BadStatement}

abbrev pub is_literal : Token → Bool
is_literal (Plain name) = true
is_literal (Negated name) = true
is_literal token = false

abbrev pub ends_in_literal : List Token → Bool
ends_in_literal [] = false
ends_in_literal (token ∷ before) = is_literal token

abbrev pub is_end : Token → Bool
is_end End = true
is_end token = false

-- the fault of a token by itself and the token before it
abbrev pub plain_fault : Bool → Token → Option OpbFaultKind
plain_fault after_literal Odd = Some BadToken
plain_fault after_literal Past = Some NumberPast
plain_fault after_literal token = if after_literal && is_literal token then Some Product else None

-- the fault of a token's place, and that of the statement that it ends
abbrev pub standing_fault : List Token → Token → Option Place → Option OpbFaultKind
standing_fault before token None = Some BadStatement
standing_fault before token (Some next) = if is_end token && not (statement_fits before) then Some NumberPast else None

-- behind a token with a fault no place is known, and none is asked
abbrev pub place_fault : List Token → Token → Option Place → Option OpbFaultKind
place_fault before token None = None
place_fault before token (Some place) = standing_fault before token (behind place token)

abbrev pub or_else : Option OpbFaultKind → Option OpbFaultKind → Option OpbFaultKind
or_else None other = other
or_else (Some kind) other = Some kind

-- the fault of a token by those before it, of which the nearest stands first, at a place
abbrev pub fault_at : Option Place → List Token → Token → Option OpbFaultKind
fault_at place before token = or_else (plain_fault (ends_in_literal before) token) (place_fault before token place)

abbrev pub place_behind : Option Place → Token → Option Place
place_behind None token = None
place_behind (Some place) token = behind place token

-- the place behind tokens
abbrev pub place_of : List Token → Option Place
place_of [] = Some Start
place_of (token ∷ before) = if is_none (fault_at (place_of before) before token) then place_behind (place_of before) token else None

abbrev pub token_fault : List Token → Token → Option OpbFaultKind
token_fault before token = fault_at (place_of before) before token

-- the fault of a line with the lowest number
abbrev pub line_fault : List Token → List Token → Option OpbFaultKind
line_fault before [] = None
line_fault before (token ∷ after) = least (token_fault before token) (line_fault (token ∷ before) after)

-- tokens and those after them
abbrev pub going_on : List Token → List Token → List Token
going_on before [] = before
going_on before (token ∷ after) = going_on (token ∷ before) after

abbrev pub may_end : Option Place → Bool
may_end None = false
may_end (Some place) = is_between place

-- the first line with a fault, and its fault; a text that ends inside a statement has one past its last line
abbrev pub fault_from : List Token → ℕ → List Text → Option (OpbFaultKind × ℕ)
fault_from before number [] = if may_end (place_of before) then None else Some (NoEnd, number)
fault_from before number (line ∷ after) =
    or_later (line_fault before (tokens_on line)) number (fault_from (going_on before (tokens_on line)) (suc number) after)

abbrev pub first_fault : List ℕ → Option (OpbFaultKind × ℕ)
first_fault text = fault_from [] 1 (lines_of text)

-- the tokens of lines behind others, the nearest to the end first
abbrev pub tokens_from : List Token → List Text → List Token
tokens_from before [] = before
tokens_from before (line ∷ after) = tokens_from (going_on before (tokens_on line)) after

abbrev pub tokens_of : List ℕ → List Token
tokens_of text = tokens_from [] (lines_of text)
