-- Cards: what the lines of the sections say.
use Rattle.std.specs.Prelude.{ℕ, List, Option, Bool, ◌||◌}
use Rattle.std.proofs.Common.{Bor}
use Rattle.std.specs.Option.{option_map}
use Rattle.mps_profile.specs.Texts.{Text}
use Rattle.mps_profile.specs.declared.bounds.Valued.{Valued}
use Rattle.mps_profile.specs.declared.bounds.Bare.{Bare}
use Rattle.mps_profile.specs.declared.cards.Card as code
use Rattle.mps_profile.specs.declared.cards.Pair as code_pair
use Rattle.mps_profile.specs.declared.cards.Pairs as code_pairs

-- a row's name and a number
pub record Pair : Type 0 where
  pub row : Text
  pub number : Text

pub data Pairs : Type 0 where
  One : (pair : Pair) → Pairs
  Two : (pair other : Pair) → Pairs

pub data Card : Type 0 where
  RowCard : (kind name : Text) → Card
  MarkerCard : (word : Text) → Card
  ColumnCard : (name : Text) (pairs : Pairs) → Card
  SideCard : (set : Option Text) (pairs : Pairs) → Card
  RangeCard : (set : Option Text) (pairs : Pairs) → Card
  ValuedCard : (set : Option Text) (kind : Valued) (column number : Text) → Card
  BareCard : (set : Option Text) (kind : Bare) (column : Text) → Card
  -- a bound of an unknown type
  UnknownCard : Card

-- whether one of the pairs passes a test
abbrev pub either : (Pair → Bool) → Pairs → Bool
either test (One pair) = test pair
either test (Two pair other) = test pair || test other

-- the texts of a card in the code
abbrev pub text_pair : code_pair.Pair → Pair
text_pair pair = record { row = pair.row.now; number = pair.number.now }

abbrev pub text_pairs : code_pairs.Pairs → Pairs
text_pairs (code_pairs.TheVariants.One pair) = One (text_pair pair)
text_pairs (code_pairs.TheVariants.Two pair other) = Two (text_pair pair) (text_pair other)

abbrev pub text_set : Option (Bor (List ℕ)) → Option Text
text_set set = option_map (λ s. s.now) set

abbrev pub text_card : code.Card → Card
text_card (code.TheVariants.Row kind name) = RowCard kind.now name.now
text_card (code.TheVariants.Marker word) = MarkerCard word.now
text_card (code.TheVariants.Column name pairs) = ColumnCard name.now (text_pairs pairs)
text_card (code.TheVariants.RightSide set pairs) = SideCard (text_set set) (text_pairs pairs)
text_card (code.TheVariants.Range set pairs) = RangeCard (text_set set) (text_pairs pairs)
text_card (code.TheVariants.Valued set kind column number) = ValuedCard (text_set set) kind column.now number.now
text_card (code.TheVariants.Bare set kind column) = BareCard (text_set set) kind column.now
text_card code.TheVariants.Unknown = UnknownCard
