-- OBJSENSE without a word gets its card.
use Rattle.std.proofs.Common.{◌≡◌, ℕ, List, [], ◌∷◌, Bool, true, false, cond, ◌||◌, Option, Some, None, Result, Ok, Err, refl, sym, ap, ◌∙◌, subst}
use Rattle.std.proofs.lemmas.Bool.{false_from_ne_true}
use Rattle.lp_model.specs.declared.program.Sense.{Sense}
use Rattle.text_lines.specs.Lines.{lines_of}
use Rattle.mps_profile.specs.Texts.{Text}
use Rattle.mps_profile.specs.Fields.{fields_of}
use Rattle.mps_profile.specs.Words.{section_named, sense_named, is_refused}
use Rattle.mps_profile.specs.Cards.{Card}
use Rattle.mps_profile.specs.Items.{Line, Blank, Heading, CardLine, Item, Moves, line_of, item_by, heading, objsense, sense_opened, opened, card_item, section_card, says, sense_card, sense_told, may_follow, is_awaited, is_name, or_next, has_card, progress_of, progress_after}
use Rattle.mps_profile.specs.Reading.{line_fault, first_fault, lines_read, is_end}
use Rattle.mps_profile.specs.declared.dialect.Dialect.{Dialect}
use Rattle.mps_profile.specs.declared.dialect.Format.{Format}
use Rattle.mps_profile.specs.declared.progress.Told.{Told}
use Rattle.mps_profile.specs.declared.progress.Told as told
use Rattle.mps_profile.specs.declared.progress.Progress.{Progress}
use Rattle.mps_profile.specs.declared.sections.Section.{Section}
use Rattle.mps_profile.specs.declared.sections.Section.TheVariants.{Name, Objsense, Rows, Columns, Rhs, Ranges, Bounds, Endata}
use Rattle.mps_profile.specs.declared.faults.MpsFaultKind.{MpsFaultKind}
use Rattle.mps_profile.specs.declared.faults.MpsFaultKind.TheVariants.{FieldCount, SectionOrder}
use Rattle.mps_laws.proofs.Faultless.{said_by, through}

-- while its card is awaited, OBJSENSE is going on, and a card comes next
abbrev Waits : Progress → List Text → Type 0
Waits progress after = is_awaited progress.sense ≡ true → (progress.section ≡ Some Objsense) × (has_card after ≡ true)

-- the same after what a line says
abbrev Waited : Progress → Result Item MpsFaultKind → List Text → Type 0
Waited before (Ok item) after = Waits (progress_after before (Ok item)) after
Waited before (Err fault) after = Unit {0}

abbrev IsQuiet : Progress → Type 0
IsQuiet before = is_awaited before.sense ≡ true → ⊥

at_opened : (before : Progress) (section : Section) (sense : Told) (after : List Text) → (is_awaited sense ≡ true → (Some section ≡ Some Objsense) × (has_card after ≡ true))
    → Waited before (opened before section sense) after
at_opened before section sense after waits = by_test (may_follow before section)
  where
    new : Progress
    new = record { section = Some section; named = before.named || is_name section; sense = sense }

    by_test : (b : Bool) → Waited before (cond b (Ok (Moves new)) (Err SectionOrder)) after
    by_test true = waits
    by_test false = tt

at_sense : (before : Progress) (sense : Option Sense) (after : List Text) → Waited before (sense_opened before sense) after
at_sense before None after = tt
at_sense before (Some sense) after = at_opened before Objsense (told.TheVariants.Sense sense) after (λ awaited. cc)

at_objsense : (before : Progress) (words : List Text) (after : List Text) → Waited before (objsense before words (has_card after)) after
at_objsense before [] after = by_test (has_card after) refl
  where
    by_test : (b : Bool) → has_card after ≡ b → Waited before (cond b (opened before Objsense told.TheVariants.Awaited) (Err FieldCount)) after
    by_test true is = at_opened before Objsense told.TheVariants.Awaited after (λ awaited. (refl, is))
    by_test false is = tt
at_objsense before (word ∷ words) after = at_sense before (sense_named word) after

at_heading : (before : Progress) (section : Option Section) (refused : Bool) (words : List Text) (after : List Text) → IsQuiet before
    → Waited before (heading before section refused words (has_card after)) after
at_heading before None refused words after quiet = tt
at_heading before (Some Name) refused words after quiet = at_opened before Name before.sense after (λ awaited. absurd (quiet awaited))
at_heading before (Some Objsense) refused words after quiet = at_objsense before words after
at_heading before (Some Rows) refused words after quiet = at_opened before Rows before.sense after (λ awaited. absurd (quiet awaited))
at_heading before (Some Columns) refused words after quiet = at_opened before Columns before.sense after (λ awaited. absurd (quiet awaited))
at_heading before (Some Rhs) refused words after quiet = at_opened before Rhs before.sense after (λ awaited. absurd (quiet awaited))
at_heading before (Some Ranges) refused words after quiet = at_opened before Ranges before.sense after (λ awaited. absurd (quiet awaited))
at_heading before (Some Bounds) refused words after quiet = at_opened before Bounds before.sense after (λ awaited. absurd (quiet awaited))
at_heading before (Some Endata) refused words after quiet = at_opened before Endata before.sense after (λ awaited. absurd (quiet awaited))

at_told : (before : Progress) (sense : Option Sense) (after : List Text) → Waited before (sense_told before sense) after
at_told before None after = tt
at_told before (Some sense) after = λ awaited. cc

at_sense_card : (before : Progress) (fields : List Text) (after : List Text) → Waited before (sense_card before fields) after
at_sense_card before [] after = tt
at_sense_card before (word ∷ []) after = at_told before (sense_named word) after
at_sense_card before (word ∷ other ∷ fields) after = tt

at_awaited : (before : Progress) (fields : List Text) (b : Bool) (after : List Text) → Waited before (cond b (sense_card before fields) (Err SectionOrder)) after
at_awaited before fields true after = at_sense_card before fields after
at_awaited before fields false after = tt

-- a card of another section
at_other : (before : Progress) (section : Option Section) (r : Result Card MpsFaultKind) (after : List Text) → (section ≡ Some Objsense → ⊥)
    → (is_awaited before.sense ≡ true → section ≡ Some Objsense) → Waited before (says r) after
at_other before section (Ok card) after other waits = λ awaited. absurd (other (waits awaited))
at_other before section (Err fault) after other waits = tt

at_card : (format : Format) (before : Progress) (section : Option Section) (line : Text) (after : List Text) → (is_awaited before.sense ≡ true → section ≡ Some Objsense)
    → Waited before (card_item format before section line) after
at_card format before None line after waits = at_other before None (section_card format None line) after (λ is. cc) waits
at_card format before (Some Name) line after waits = at_other before (Some Name) (section_card format (Some Name) line) after (λ is. cc) waits
at_card format before (Some Objsense) line after waits = at_awaited before (fields_of line) (is_awaited before.sense) after
at_card format before (Some Rows) line after waits = at_other before (Some Rows) (section_card format (Some Rows) line) after (λ is. cc) waits
at_card format before (Some Columns) line after waits = at_other before (Some Columns) (section_card format (Some Columns) line) after (λ is. cc) waits
at_card format before (Some Rhs) line after waits = at_other before (Some Rhs) (section_card format (Some Rhs) line) after (λ is. cc) waits
at_card format before (Some Ranges) line after waits = at_other before (Some Ranges) (section_card format (Some Ranges) line) after (λ is. cc) waits
at_card format before (Some Bounds) line after waits = at_other before (Some Bounds) (section_card format (Some Bounds) line) after (λ is. cc) waits
at_card format before (Some Endata) line after waits = at_other before (Some Endata) (section_card format (Some Endata) line) after (λ is. cc) waits

by_line : (format : Format) (before : Progress) (text : Text) (line : Line) (after : List Text)
    → (is_awaited before.sense ≡ true → (before.section ≡ Some Objsense) × (or_next line (has_card after) ≡ true)) → Waited before (item_by format before text line (has_card after)) after
by_line format before text Blank after waits = waits
by_line format before text (Heading word words) after waits = at_heading before (section_named word) (is_refused word) words after (λ awaited. let h = waits awaited in cc)
by_line format before text CardLine after waits = at_card format before before.section text after (λ awaited. (waits awaited).0)

abbrev Waiting : Dialect → List Text → List Text → Type 0
Waiting dialect lines rest = Waits (progress_of dialect.format lines) rest

one_line : (dialect : Dialect) (before : List Text) (line : Text) (after : List Text) → line_fault dialect before line after ≡ None → Waiting dialect before (line ∷ after) → Waiting dialect (line ∷ before) after
one_line dialect before line after sound waits =
    let saying = said_by dialect before line after sound in
    let progress : Progress = progress_of dialect.format before in
    subst (λ r. Waits (progress_after progress r) after) (sym saying.2)
    (subst (λ r. Waited progress r after) saying.1 (by_line dialect.format progress line (line_of line) after waits))

-- the sense is told, or there was no OBJSENSE
pub not_awaited : (dialect : Dialect) (text : List ℕ) → first_fault dialect text ≡ None → is_awaited (progress_of dialect.format (lines_read dialect text)).sense ≡ false
not_awaited dialect text sound =
    let ended = through dialect (Waiting dialect) (one_line dialect) [] (lines_of text) sound (λ awaited. cc) in
    false_from_ne_true _ (λ awaited. let section = (ended.2 awaited).0 in let ends = ended.1 in let clash : false ≡ true = sym (ap is_end section) ∙ ends in cc)
