-- The first fault of a text, and the lines that are read.
use Rattle.std.specs.Prelude.{ℕ, ◌+◌, Bool, true, false, List, [], ◌∷◌, length, Option, Some, None, Result, Ok, Err, if◌then◌else◌}
use Rattle.std.specs.List.{list_any}
use Rattle.text_lines.specs.Faults.{or_later}
use Rattle.text_lines.specs.Lines.{lines_of}
use Rattle.mps_profile.specs.Texts.{Text}
use Rattle.mps_profile.specs.Cards.{Card}
use Rattle.mps_profile.specs.Items.{Item, Silent, Moves, Says, item_of, has_card, progress_of, cards_of}
use Rattle.mps_profile.specs.Rows.{row_kinds, is_free}
use Rattle.mps_profile.specs.CardFaults.{card_fault}
use Rattle.mps_profile.specs.declared.dialect.Dialect.{Dialect}
use Rattle.mps_profile.specs.declared.sections.Section.{Section}
use Rattle.mps_profile.specs.declared.sections.Section.TheVariants.{Columns, Endata}
use Rattle.mps_profile.specs.declared.faults.MpsFaultKind.{MpsFaultKind}
use Rattle.mps_profile.specs.declared.faults.MpsFaultKind.TheVariants.{NoEnd, NoObjective}

-- COLUMNS stand after an N row
abbrev pub section_fault : List Card → Option Section → Option MpsFaultKind
section_fault before (Some Columns) = if list_any is_free (row_kinds before) then None else Some NoObjective
section_fault before section = None

-- the fault of what a line says, by the cards before it
abbrev pub item_fault : Dialect → List Card → Result Item MpsFaultKind → Option MpsFaultKind
item_fault dialect before (Err fault) = Some fault
item_fault dialect before (Ok Silent) = None
item_fault dialect before (Ok (Moves next)) = section_fault before next.section
item_fault dialect before (Ok (Says card)) = card_fault dialect before card

-- the fault of a line, by the lines before it, the nearest first, and those after it
abbrev pub line_fault : Dialect → List Text → Text → List Text → Option MpsFaultKind
line_fault dialect before line after =
    item_fault dialect (cards_of dialect.format before) (item_of dialect.format (progress_of dialect.format before) line (has_card after))

abbrev pub is_end : Option Section → Bool
is_end (Some Endata) = true
is_end section = false

-- ENDATA was read
abbrev pub is_ended : Dialect → List Text → Bool
is_ended dialect before = is_end (progress_of dialect.format before).section

-- the first line with a fault, and its fault; text after ENDATA is unread; without ENDATA the fault stands past the last line
abbrev pub fault_from : Dialect → List Text → List Text → Option (MpsFaultKind × ℕ)
fault_from dialect before [] = if is_ended dialect before then None else Some (NoEnd, length before + 1)
fault_from dialect before (line ∷ after) =
    if is_ended dialect before then None
    else or_later (line_fault dialect before line after) (length before + 1) (fault_from dialect (line ∷ before) after)

abbrev pub first_fault : Dialect → List ℕ → Option (MpsFaultKind × ℕ)
first_fault dialect text = fault_from dialect [] (lines_of text)

-- the lines that are read, the nearest to the end first
abbrev pub read_from : Dialect → List Text → List Text → List Text
read_from dialect before [] = before
read_from dialect before (line ∷ after) = if is_ended dialect before then before else read_from dialect (line ∷ before) after

abbrev pub lines_read : Dialect → List ℕ → List Text
lines_read dialect text = read_from dialect [] (lines_of text)
