-- What a line says, whether or not a card comes after it.
use Rattle.std.proofs.Common.{◌≡◌, List, [], ◌∷◌, Bool, true, false, Option, Some, None, Ok}
use Rattle.mps_profile.specs.Texts.{Text}
use Rattle.mps_profile.specs.Words.{section_named, is_refused}
use Rattle.mps_profile.specs.Items.{Line, Blank, Heading, CardLine, Item, line_of, item_of, item_by, heading, objsense}
use Rattle.mps_profile.specs.declared.dialect.Format.{Format}
use Rattle.mps_profile.specs.declared.progress.Progress.{Progress}
use Rattle.mps_profile.specs.declared.sections.Section.{Section}
use Rattle.mps_profile.specs.declared.sections.Section.TheVariants.{Name, Objsense, Rows, Columns, Rhs, Ranges, Bounds, Endata}

sense_line : (before : Progress) (words : List Text) (follows : Bool) (item : Item) → objsense before words follows ≡ Ok item → objsense before words true ≡ Ok item
sense_line before [] true item is = is
sense_line before [] false item is = cc
sense_line before (word ∷ words) follows item is = is

section_line : (before : Progress) (section : Option Section) (refused : Bool) (words : List Text) (follows : Bool) (item : Item)
    → heading before section refused words follows ≡ Ok item → heading before section refused words true ≡ Ok item
section_line before None refused words follows item is = is
section_line before (Some Name) refused words follows item is = is
section_line before (Some Objsense) refused words follows item is = sense_line before words follows item is
section_line before (Some Rows) refused words follows item is = is
section_line before (Some Columns) refused words follows item is = is
section_line before (Some Rhs) refused words follows item is = is
section_line before (Some Ranges) refused words follows item is = is
section_line before (Some Bounds) refused words follows item is = is
section_line before (Some Endata) refused words follows item is = is

by_line : (format : Format) (before : Progress) (text : Text) (line : Line) (follows : Bool) (item : Item)
    → item_by format before text line follows ≡ Ok item → item_by format before text line true ≡ Ok item
by_line format before text Blank follows item is = is
by_line format before text (Heading word words) follows item is = section_line before (section_named word) (is_refused word) words follows item is
by_line format before text CardLine follows item is = is

-- a line that says something says the same where a card comes after it
pub said : (format : Format) (before : Progress) (text : Text) (follows : Bool) (item : Item) → item_of format before text follows ≡ Ok item → item_of format before text true ≡ Ok item
said format before text follows item is = by_line format before text (line_of text) follows item is
