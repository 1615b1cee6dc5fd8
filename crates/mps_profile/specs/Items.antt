-- What a line says, by how far the text has come before it.
use Rattle.std.specs.Prelude.{◌==◌, ◌&&◌, ◌||◌, not, Bool, true, false, List, [], ◌∷◌, Option, Some, None, Result, Ok, Err, if◌then◌else◌}
use Rattle.lp_model.specs.declared.program.Sense.{Sense}
use Rattle.mps_profile.specs.Texts.{Text}
use Rattle.mps_profile.specs.Fields.{is_blank, fields_of}
use Rattle.mps_profile.specs.Words.{section_named, sense_named, is_refused}
use Rattle.mps_profile.specs.Cards.{Card}
use Rattle.mps_profile.specs.FreeCards.{free_card}
use Rattle.mps_profile.specs.FixedCards.{fixed_card}
use Rattle.mps_profile.specs.declared.dialect.Format.{Format}
use Rattle.mps_profile.specs.declared.dialect.Format.TheVariants.{Free, Fixed}
use Rattle.mps_profile.specs.declared.sections.Section.{Section}
use Rattle.mps_profile.specs.declared.sections.Section.TheVariants.{Name, Objsense, Rows, Columns, Rhs, Ranges, Bounds, Endata}
use Rattle.mps_profile.specs.declared.progress.Told.{Told}
use Rattle.mps_profile.specs.declared.progress.Told as told
use Rattle.mps_profile.specs.declared.progress.Progress.{Progress}
use Rattle.mps_profile.specs.declared.faults.MpsFaultKind.{MpsFaultKind}
use Rattle.mps_profile.specs.declared.faults.MpsFaultKind.TheVariants.{FieldCount, UnknownSection, RefusedSection, SectionOrder}

-- a line by itself: without meaning, a section's line with its words, or a card
pub data Line : Type 0 where
  Blank : Line
  Heading : (word : Text) (words : List Text) → Line
  CardLine : Line

-- a comment begins with a star, a card with a blank
abbrev pub line_with : Text → List Text → Line
line_with [] fields = Blank
line_with (b ∷ bytes) [] = Blank
line_with (b ∷ bytes) (word ∷ words) = if b == 42 then Blank else if is_blank b then CardLine else Heading word words

abbrev pub line_of : Text → Line
line_of text = line_with text (fields_of text)

-- what a line says: nothing, how far the text has come, or a card
pub data Item : Type 0 where
  Silent : Item
  Moves : (next : Progress) → Item
  Says : (card : Card) → Item

abbrev pub start : Progress
start = record { section = None; named = false; sense = told.TheVariants.Nothing }

-- above ROWS stand NAME and OBJSENSE, in any order, each at most once
abbrev pub is_above : Option Section → Bool
is_above None = true
is_above (Some Name) = true
is_above (Some Objsense) = true
is_above section = false

abbrev pub is_untold : Told → Bool
is_untold told.TheVariants.Nothing = true
is_untold sense = false

abbrev pub is_awaited : Told → Bool
is_awaited told.TheVariants.Awaited = true
is_awaited sense = false

-- the sections that may stand right before RHS, RANGES, BOUNDS and ENDATA
abbrev pub is_columns : Option Section → Bool
is_columns (Some Columns) = true
is_columns section = false

abbrev pub is_rhs : Option Section → Bool
is_rhs (Some Rhs) = true
is_rhs section = false

abbrev pub is_ranges : Option Section → Bool
is_ranges (Some Ranges) = true
is_ranges section = false

abbrev pub is_bounds : Option Section → Bool
is_bounds (Some Bounds) = true
is_bounds section = false

abbrev pub is_rows : Option Section → Bool
is_rows (Some Rows) = true
is_rows section = false

abbrev pub may_follow : Progress → Section → Bool
may_follow before Name = is_above before.section && not before.named
may_follow before Objsense = is_above before.section && is_untold before.sense
may_follow before Rows = is_above before.section
may_follow before Columns = is_rows before.section
may_follow before Rhs = is_columns before.section
may_follow before Ranges = is_columns before.section || is_rhs before.section
may_follow before Bounds = is_columns before.section || is_rhs before.section || is_ranges before.section
may_follow before Endata = is_columns before.section || is_rhs before.section || is_ranges before.section || is_bounds before.section

abbrev pub is_name : Section → Bool
is_name Name = true
is_name section = false

-- a section begins
abbrev pub opened : Progress → Section → Told → Result Item MpsFaultKind
opened before next sense =
    if may_follow before next then Ok (Moves (record { section = Some next; named = before.named || is_name next; sense = sense })) else Err SectionOrder

-- OBJSENSE has one of its words on its line, or else a card comes next
abbrev pub sense_opened : Progress → Option Sense → Result Item MpsFaultKind
sense_opened before None = Err FieldCount
sense_opened before (Some sense) = opened before Objsense (told.TheVariants.Sense sense)

abbrev pub objsense : Progress → List Text → Bool → Result Item MpsFaultKind
objsense before [] has_card = if has_card then opened before Objsense told.TheVariants.Awaited else Err FieldCount
objsense before (word ∷ words) has_card = sense_opened before (sense_named word)

abbrev pub heading : Progress → Option Section → Bool → List Text → Bool → Result Item MpsFaultKind
heading before None refused words has_card = Err (if refused then RefusedSection else UnknownSection)
heading before (Some Objsense) refused words has_card = objsense before words has_card
heading before (Some next) refused words has_card = opened before next before.sense

-- the one card of OBJSENSE
abbrev pub sense_told : Progress → Option Sense → Result Item MpsFaultKind
sense_told before None = Err FieldCount
sense_told before (Some sense) = Ok (Moves (record { section = before.section; named = before.named; sense = told.TheVariants.Sense sense }))

abbrev pub sense_card : Progress → List Text → Result Item MpsFaultKind
sense_card before (word ∷ []) = sense_told before (sense_named word)
sense_card before fields = Err FieldCount

abbrev pub says : Result Card MpsFaultKind → Result Item MpsFaultKind
says (Ok card) = Ok (Says card)
says (Err fault) = Err fault

abbrev pub section_card : Format → Option Section → Text → Result Card MpsFaultKind
section_card Free section line = free_card section (fields_of line)
section_card Fixed section line = fixed_card section line

-- a card of OBJSENSE is read as in the free format
abbrev pub card_item : Format → Progress → Option Section → Text → Result Item MpsFaultKind
card_item format before (Some Objsense) line = if is_awaited before.sense then sense_card before (fields_of line) else Err SectionOrder
card_item format before section line = says (section_card format section line)

abbrev pub item_by : Format → Progress → Text → Line → Bool → Result Item MpsFaultKind
item_by format before line Blank has_card = Ok Silent
item_by format before line (Heading word words) has_card = heading before (section_named word) (is_refused word) words has_card
item_by format before line CardLine has_card = card_item format before before.section line

-- what a line says, where a card comes next or not, or the first fault of its section and its fields
abbrev pub item_of : Format → Progress → Text → Bool → Result Item MpsFaultKind
item_of format before line has_card = item_by format before line (line_of line) has_card

-- whether the first line that is not blank is a card
abbrev pub or_next : Line → Bool → Bool
or_next Blank next = next
or_next (Heading word words) next = false
or_next CardLine next = true

abbrev pub has_card : List Text → Bool
has_card [] = false
has_card (line ∷ lines) = or_next (line_of line) (has_card lines)

-- how far the text has come, and the cards, after a line
abbrev pub progress_after : Progress → Result Item MpsFaultKind → Progress
progress_after before (Ok (Moves next)) = next
progress_after before item = before

abbrev pub cards_after : List Card → Result Item MpsFaultKind → List Card
cards_after cards (Ok (Says card)) = card ∷ cards
cards_after cards item = cards

-- after the lines, of which the nearest stands first
abbrev pub progress_of : Format → List Text → Progress
progress_of format [] = start
progress_of format (line ∷ before) = progress_after (progress_of format before) (item_of format (progress_of format before) line true)

-- the cards of the lines, the nearest first
abbrev pub cards_of : Format → List Text → List Card
cards_of format [] = []
cards_of format (line ∷ before) = cards_after (cards_of format before) (item_of format (progress_of format before) line true)
