-- Where tokens may stand. The first statement may be `min:` and terms, which may be none. Every other one is one term at least, a relation and
-- a whole number. A term is a whole number and a literal.
use Rattle.std.specs.Prelude.{Bool, true, false, Option, Some, None}
use Rattle.opb_text.specs.Tokens.{Token, Minimum, AtLeast, Equal, End, Number, Plain, Negated}
use Rattle.opb_text.specs.declared.places.Place.{Place}
use Rattle.opb_text.specs.declared.places.Place as places
use Rattle.opb_text.specs.declared.places.Place.TheVariants.{Start, Between, CostNumber, CostLiteral, Literal, Relation, RightSide}

-- the place behind a token, where it may stand
abbrev pub behind : Place → Token → Option Place
behind Start Minimum = Some places.TheVariants.Minimum
behind Start (Number value) = Some places.TheVariants.Number
behind Between (Number value) = Some places.TheVariants.Number
behind places.TheVariants.Minimum (Number value) = Some CostNumber
behind places.TheVariants.Minimum End = Some Between
behind CostNumber (Plain name) = Some CostLiteral
behind CostNumber (Negated name) = Some CostLiteral
behind CostLiteral (Number value) = Some CostNumber
behind CostLiteral End = Some Between
behind places.TheVariants.Number (Plain name) = Some Literal
behind places.TheVariants.Number (Negated name) = Some Literal
behind Literal (Number value) = Some places.TheVariants.Number
behind Literal AtLeast = Some Relation
behind Literal Equal = Some Relation
behind Relation (Number value) = Some RightSide
behind RightSide End = Some Between
behind place token = None

-- a text may end here
abbrev pub is_between : Place → Bool
is_between Start = true
is_between Between = true
is_between place = false
