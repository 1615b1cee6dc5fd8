-- The sections that stand after the rows.
use Rattle.std.proofs.Common.{◌≡◌, ◌⊎◌, inl, inr, List, [], ◌∷◌, Bool, true, false, cond, ◌||◌, Option, Some, None, Result, Ok, Err, refl, ap, subst}
use Rattle.std.proofs.lemmas.Bool.{or_left, or_right}
use Rattle.lp_model.specs.declared.program.Sense.{Sense}
use Rattle.mps_profile.specs.Texts.{Text}
use Rattle.mps_profile.specs.Words.{section_named, sense_named, is_refused}
use Rattle.mps_profile.specs.Fields.{fields_of}
use Rattle.mps_profile.specs.Cards.{Card}
use Rattle.mps_profile.specs.Items.{Line, Blank, Heading, CardLine, Item, Moves, line_of, item_of, item_by, heading, objsense, sense_opened, opened, card_item, section_card, says, sense_card, sense_told, may_follow, is_columns, is_rhs, is_ranges, is_bounds, is_awaited, is_name}
use Rattle.mps_profile.specs.Reading.{is_end}
use Rattle.mps_profile.specs.declared.dialect.Format.{Format}
use Rattle.mps_profile.specs.declared.progress.Told.{Told}
use Rattle.mps_profile.specs.declared.progress.Told as told
use Rattle.mps_profile.specs.declared.progress.Progress.{Progress}
use Rattle.mps_profile.specs.declared.sections.Section.{Section}
use Rattle.mps_profile.specs.declared.sections.Section.TheVariants.{Name, Objsense, Rows, Columns, Rhs, Ranges, Bounds, Endata}
use Rattle.mps_profile.specs.declared.faults.MpsFaultKind.{MpsFaultKind}
use Rattle.mps_profile.specs.declared.faults.MpsFaultKind.TheVariants.{SectionOrder}

-- COLUMNS, or a section after them
abbrev pub is_past_rows : Option Section → Bool
is_past_rows section = (is_columns section || is_rhs section || is_ranges section || is_bounds section) || is_end section

pub past_at_end : (section : Option Section) → is_end section ≡ true → is_past_rows section ≡ true
past_at_end section is = or_right _ _ is

-- the text was past the rows before, or COLUMNS begin
abbrev pub Moved : Option Section → Option Section → Type 0
Moved before next = (is_past_rows next ≡ true → is_past_rows before ≡ true) ⊎ (next ≡ Some Columns)

by_section : (before : Progress) (section : Section) → may_follow before section ≡ true → Moved before.section (Some section)
by_section before Name may = inl (λ h. cc)
by_section before Objsense may = inl (λ h. cc)
by_section before Rows may = inl (λ h. cc)
by_section before Columns may = inr refl
by_section before Rhs may = inl (λ h. or_left _ _ (or_left _ _ (or_left _ _ (or_left _ _ may))))
by_section before Ranges may = inl (λ h. or_left _ _ (or_left _ _ (or_left _ _ may)))
by_section before Bounds may = inl (λ h. or_left _ _ (or_left _ _ may))
by_section before Endata may = inl (λ h. or_left _ _ may)

abbrev next_of : Result Item MpsFaultKind → Progress → Progress
next_of (Ok (Moves next)) other = next
next_of r other = other

abbrev SaysMove : Result Item MpsFaultKind → Progress → Type 0
SaysMove r next = r ≡ Ok (Moves next)

same_next : (new next : Progress) → SaysMove (Ok (Moves new)) next → new ≡ next
same_next new next is = ap (λ (r : Result Item MpsFaultKind). next_of r next) is

at_opened : (before : Progress) (section : Section) (sense : Told) (next : Progress) → SaysMove (opened before section sense) next → Moved before.section next.section
at_opened before section sense next is = by_test (may_follow before section) refl is
  where
    new : Progress
    new = record { section = Some section; named = before.named || is_name section; sense = sense }

    by_test : (b : Bool) → may_follow before section ≡ b → SaysMove (cond b (Ok (Moves new)) (Err SectionOrder)) next → Moved before.section next.section
    by_test true may moves = subst (λ s. Moved before.section s) (ap (λ (p : Progress). p.section) (same_next new next moves)) (by_section before section may)
    by_test false may moves = cc

at_sense : (before : Progress) (sense : Option Sense) (next : Progress) → SaysMove (sense_opened before sense) next → Moved before.section next.section
at_sense before None next moves = cc
at_sense before (Some sense) next moves = at_opened before Objsense (told.TheVariants.Sense sense) next moves

at_objsense : (before : Progress) (words : List Text) (next : Progress) → SaysMove (objsense before words true) next → Moved before.section next.section
at_objsense before [] next moves = at_opened before Objsense told.TheVariants.Awaited next moves
at_objsense before (word ∷ words) next moves = at_sense before (sense_named word) next moves

at_heading : (before : Progress) (section : Option Section) (refused : Bool) (words : List Text) (next : Progress) → SaysMove (heading before section refused words true) next
    → Moved before.section next.section
at_heading before None refused words next moves = cc
at_heading before (Some Name) refused words next moves = at_opened before Name before.sense next moves
at_heading before (Some Objsense) refused words next moves = at_objsense before words next moves
at_heading before (Some Rows) refused words next moves = at_opened before Rows before.sense next moves
at_heading before (Some Columns) refused words next moves = at_opened before Columns before.sense next moves
at_heading before (Some Rhs) refused words next moves = at_opened before Rhs before.sense next moves
at_heading before (Some Ranges) refused words next moves = at_opened before Ranges before.sense next moves
at_heading before (Some Bounds) refused words next moves = at_opened before Bounds before.sense next moves
at_heading before (Some Endata) refused words next moves = at_opened before Endata before.sense next moves

-- a card of OBJSENSE stays in its section
at_told : (before : Progress) (sense : Option Sense) (next : Progress) → SaysMove (sense_told before sense) next → Moved before.section next.section
at_told before None next moves = cc
at_told before (Some sense) next moves =
    subst (λ s. Moved before.section s) (ap (λ (p : Progress). p.section) (same_next _ next moves)) (inl (λ h. h))

at_sense_card : (before : Progress) (fields : List Text) (next : Progress) → SaysMove (sense_card before fields) next → Moved before.section next.section
at_sense_card before [] next moves = cc
at_sense_card before (word ∷ []) next moves = at_told before (sense_named word) next moves
at_sense_card before (word ∷ other ∷ fields) next moves = cc

at_says : (before : Progress) (r : Result Card MpsFaultKind) (next : Progress) → SaysMove (says r) next → Moved before.section next.section
at_says before (Ok card) next moves = cc
at_says before (Err fault) next moves = cc

at_awaited : (before : Progress) (fields : List Text) (b : Bool) (next : Progress) → SaysMove (cond b (sense_card before fields) (Err SectionOrder)) next → Moved before.section next.section
at_awaited before fields true next moves = at_sense_card before fields next moves
at_awaited before fields false next moves = cc

at_card : (format : Format) (before : Progress) (section : Option Section) (line : Text) (next : Progress) → SaysMove (card_item format before section line) next
    → Moved before.section next.section
at_card format before None line next moves = at_says before (section_card format None line) next moves
at_card format before (Some Name) line next moves = at_says before (section_card format (Some Name) line) next moves
at_card format before (Some Objsense) line next moves = at_awaited before (fields_of line) (is_awaited before.sense) next moves
at_card format before (Some Rows) line next moves = at_says before (section_card format (Some Rows) line) next moves
at_card format before (Some Columns) line next moves = at_says before (section_card format (Some Columns) line) next moves
at_card format before (Some Rhs) line next moves = at_says before (section_card format (Some Rhs) line) next moves
at_card format before (Some Ranges) line next moves = at_says before (section_card format (Some Ranges) line) next moves
at_card format before (Some Bounds) line next moves = at_says before (section_card format (Some Bounds) line) next moves
at_card format before (Some Endata) line next moves = at_says before (section_card format (Some Endata) line) next moves

by_line : (format : Format) (before : Progress) (text : Text) (line : Line) (next : Progress) → SaysMove (item_by format before text line true) next → Moved before.section next.section
by_line format before text Blank next moves = cc
by_line format before text (Heading word words) next moves = at_heading before (section_named word) (is_refused word) words next moves
by_line format before text CardLine next moves = at_card format before before.section text next moves

pub moved : (format : Format) (before : Progress) (text : Text) (next : Progress) → item_of format before text true ≡ Ok (Moves next) → Moved before.section next.section
moved format before text next moves = by_line format before text (line_of text) next moves
