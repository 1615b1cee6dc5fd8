use Rattle.number_texts.proofs.TextLaws.{read-decimal_text, read-quotient_text}
use Rattle.number_texts.proofs.laws.text_has_value.Goals as goal

pub returns : goal.returns
returns c = record { decimal = read-decimal_text; quotient = read-quotient_text }
