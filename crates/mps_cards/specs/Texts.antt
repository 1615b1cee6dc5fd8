-- What the code's fields, cards and items say.
use Rattle.std.specs.Prelude.{Result, Ok, Err}
use Rattle.mps_profile.specs.Fields.{FixedFields}
use Rattle.mps_profile.specs.Cards.{Card, text_card}
use Rattle.mps_profile.specs.Items as items
use Rattle.mps_profile.specs.Items.{Line, Blank, Heading, CardLine}
use Rattle.mps_profile.specs.declared.cards.Card as code
use Rattle.mps_profile.specs.declared.faults.MpsFaultKind.{MpsFaultKind}
use Rattle.mps_cards.specs.declared.column_texts.ColumnTexts.{ColumnTexts}
use Rattle.mps_cards.specs.declared.items.Item.{Item}
use Rattle.mps_cards.specs.declared.items.Item.TheVariants.{Silent, Moves, Says}
use Rattle.mps_cards.specs.declared.lines.LineKind.{LineKind}
use Rattle.mps_cards.specs.declared.lines.LineKind as kinds

-- the texts of the fields of a line of the fixed format
abbrev pub fields_in : ColumnTexts → FixedFields
fields_in texts = record {
  first = texts.first.items;
  second = texts.second.items;
  third = texts.third.items;
  fourth = texts.fourth.items;
  fifth = texts.fifth.items;
  sixth = texts.sixth.items;
}

-- a card, or its fault
abbrev pub card_result : Result code.Card MpsFaultKind → Result Card MpsFaultKind
card_result (Ok card) = Ok (text_card card)
card_result (Err fault) = Err fault

abbrev pub text_item : Item → items.Item
text_item Silent = items.Silent
text_item (Moves next) = items.Moves next
text_item (Says card) = items.Says (text_card card)

-- what a line says, or its fault
abbrev pub item_result : Result Item MpsFaultKind → Result items.Item MpsFaultKind
item_result (Ok item) = Ok (text_item item)
item_result (Err fault) = Err fault

-- what kind of line a line is
abbrev pub kind_of : Line → LineKind
kind_of Blank = kinds.TheVariants.Blank
kind_of (Heading word words) = kinds.TheVariants.Heading
kind_of CardLine = kinds.TheVariants.Card
