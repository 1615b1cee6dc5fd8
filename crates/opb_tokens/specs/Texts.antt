-- What the code's tokens are.
use Rattle.opb_text.specs.Tokens as texts
use Rattle.opb_tokens.specs.declared.tokens.Token.{Token}
use Rattle.opb_tokens.specs.declared.tokens.Token.TheVariants.{Minimum, AtLeast, Equal, End, Number, Past, Plain, Negated, Odd}

abbrev pub text_token : Token → texts.Token
text_token Minimum = texts.Minimum
text_token AtLeast = texts.AtLeast
text_token Equal = texts.Equal
text_token End = texts.End
text_token (Number value) = texts.Number value
text_token Past = texts.Past
text_token (Plain name) = texts.Plain name.now
text_token (Negated name) = texts.Negated name.now
text_token Odd = texts.Odd
